-- `take_part`: its loop, its calls and what it answers.
use Rattle.std.proofs.Common.{◌≡◌, ◌∙◌, ℕ, Bool, true, false, List, length, Option, Some, None}
use Rattle.std.proofs.Common.{sym, subst}
use Rattle.std.specs.List.{Contains}
use Rattle.td_waves.specs.Graph.{lists}
use Rattle.td_plan.specs.inner.Lists.{AreReached, AreSetTo, IsStray}
use Rattle.td_plan.specs.inner.Searching.{AreNodes}
use Rattle.td_plan.proofs.LedBack.{fewer-led, nodes-are, one-part, root-mine, set-again, stray-none}
use Rattle.td_plan.proofs.Turned.{lists-len}
use Rattle.td_plan.proofs.strays.take_part.Goals as goal

-- what was found, of the nodes as they lie
told : (users : List (List ℕ)) (root : ℕ) (nodes seen : List ℕ) (found other : Option ℕ)
    → seen ≡ nodes → found ≡ other → IsStray users root seen found
    → IsStray users root nodes other
told users root nodes seen found other are is so =
    subst (λ o. IsStray users root nodes o) is
    (subst (λ ns. IsStray users root ns found) are so)

-- a search from the flags as they are set again
again : (graph : List (List ℕ)) (root : ℕ) (flags : List Bool) (nodes : List ℕ) (left : List Bool)
    → AreReached graph root flags nodes left → (seen : List ℕ) (next : List Bool) → seen ≡ nodes
    → length next ≡ length left → AreSetTo seen false true left next
    → (other : ℕ) (fewer : List ℕ) (more : List Bool) → AreReached graph other next fewer more
    → AreReached graph other flags fewer more
again graph root flags nodes left so seen next are len sets other fewer more by =
    subst (λ fs. AreReached graph other fs fewer more)
    (set-again graph root flags nodes left so next len
    (subst (λ ns. AreSetTo ns false true left next) are sets)) by

pub loop-nodes-init : goal.loop-nodes-init
loop-nodes-init c = record {
  reached = c.in_ok-nodes.ensures.reached;
  clear = c.requires.clear;
}

pub loop-nodes-preserved : goal.loop-nodes-preserved
loop-nodes-preserved c = record {
  reached = again (lists c.args.graph.now) c.loop-nodes.root c.args.left.now.items
      c.loop-nodes.nodes.items c.loop-nodes.left.items c.loop-nodes.invariant.reached
      c.deref-in-Some.result.now c.set_flags.new.flags.items c.deref-in-Some.ensures.value
      c.set_flags.ensures.len c.set_flags.ensures.set c.in-Some.other
      c.in_ok-nodes-2.nodes.items c.reach-in-Some.new.flags.items
      c.in_ok-nodes-2.ensures.reached;
  clear = record {
    len = c.in_ok-other.ensures.clear.len ∙ c.requires.ways.count;
    none = c.in_ok-other.ensures.clear.none;
  };
}

pub loop-nodes-smaller : goal.loop-nodes-smaller
loop-nodes-smaller c =
    let graph = lists c.args.graph.now in
    let users = lists c.args.users.now in
    let flags = c.args.left.now.items in
    let root = c.loop-nodes.root in
    let nodes = c.loop-nodes.nodes.items in
    let left = c.loop-nodes.left.items in
    let so = c.loop-nodes.invariant.reached in
    let other = c.in-Some.other in
    let stray = told users root nodes c.deref.result.now c.in_ok-other.field-0 (Some other)
    c.deref.ensures.value c.in-Some.is c.in_ok-other.ensures.stray in
    let by = again graph root flags nodes left so c.deref-in-Some.result.now
    c.set_flags.new.flags.items c.deref-in-Some.ensures.value c.set_flags.ensures.len
    c.set_flags.ensures.set other c.in_ok-nodes-2.nodes.items c.reach-in-Some.new.flags.items
    c.in_ok-nodes-2.ensures.reached in
    fewer-led graph root flags nodes left so other stray.0
    (stray-none graph root flags nodes left so users c.requires.ways.turned other stray.0 stray.1)
    c.in_ok-nodes-2.nodes.items c.reach-in-Some.new.flags.items by

pub stray-requires-clause-root : goal.stray-requires-clause-root
stray-requires-clause-root c =
    subst (λ (ns : List ℕ). Contains ns c.loop-nodes.root) (sym c.deref.ensures.value)
    (root-mine (lists c.args.graph.now) c.loop-nodes.root c.args.left.now.items
    c.loop-nodes.nodes.items c.loop-nodes.left.items c.loop-nodes.invariant.reached)

pub stray-requires-clause-nodes : goal.stray-requires-clause-nodes
stray-requires-clause-nodes c =
    subst (λ (ns : List ℕ). AreNodes (length c.args.users.now) ns) (sym c.deref.ensures.value)
    (nodes-are (lists c.args.graph.now) c.loop-nodes.root c.args.left.now.items
    c.loop-nodes.nodes.items c.loop-nodes.left.items c.loop-nodes.invariant.reached
    (length c.args.users.now) (c.requires.len ∙ sym c.requires.ways.count))

pub set_flags-requires : goal.set_flags-requires
set_flags-requires c =
    subst (λ (ns : List ℕ). AreNodes (length c.loop-nodes.left.items) ns)
    (sym c.deref-in-Some.ensures.value)
    (nodes-are (lists c.args.graph.now) c.loop-nodes.root c.args.left.now.items
    c.loop-nodes.nodes.items c.loop-nodes.left.items c.loop-nodes.invariant.reached
    (length c.loop-nodes.left.items) (sym c.loop-nodes.invariant.reached.len))

pub returns-clause-part : goal.returns-clause-part
returns-clause-part c =
    one-part (lists c.args.graph.now) c.loop-nodes.root c.args.left.now.items
    c.loop-nodes.nodes.items c.loop-nodes.left.items c.loop-nodes.invariant.reached
    (lists c.args.users.now) c.requires.ways.turned
    (c.requires.len ∙ sym (lists-len c.args.graph.now))
    (told (lists c.args.users.now) c.loop-nodes.root c.loop-nodes.nodes.items c.deref.result.now
    c.in_ok-other.field-0 None c.deref.ensures.value c.in_default.is
    c.in_ok-other.ensures.stray)
