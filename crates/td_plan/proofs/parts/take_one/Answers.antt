-- `take_one`: its calls and what it answers.
use Rattle.std.proofs.Common.{◌≤◌, ◌+◌, ◌∙◌, ℕ, List, length, sym, ap, subst, arith}
use Rattle.std.specs.List.{All, Contains}
use Rattle.std.proofs.lemmas.List.Elements.{All-contains}
use Rattle.td_waves.specs.Graph.{lists}
use Rattle.td_plan.specs.inner.Lists.{AreSetTo}
use Rattle.td_plan.specs.inner.Searching.{AreNodes, IsGreatestBelow}
use Rattle.td_plan.proofs.LedBack.{nodes-are, root-mine}
use Rattle.td_plan.proofs.Taking.{taken}
use Rattle.td_plan.proofs.Turned.{edges-within, lists-len}
use Rattle.td_plan.proofs.parts.take_one.Goals as goal

pub greatest_below-below-requires-clause-members :
    goal.greatest_below-below-requires-clause-members
greatest_below-below-requires-clause-members c =
    let so = c.in_ok-nodes.ensures.part in
    subst (λ (ns : List ℕ). AreNodes (length c.args.graph.now) ns) (sym c.deref-2.ensures.value)
    (nodes-are (lists c.args.graph.now) so.root c.args.left.now.items c.in_ok-nodes.nodes.items
    c.take_part.new.left.items so.reached (length c.args.graph.now)
    (c.requires.underway.len ∙ lists-len c.args.graph.now))

pub least-requires : goal.least-requires
least-requires c =
    let so = c.in_ok-nodes.ensures.part in
    let mine = root-mine (lists c.args.graph.now) so.root c.args.left.now.items
    c.in_ok-nodes.nodes.items c.take_part.new.left.items so.reached in
    omega (arith, mine.1, ap (λ (ns : List ℕ). length ns) c.deref-4.ensures.value)

pub set_numbers-requires : goal.set_numbers-requires
set_numbers-requires c =
    let so = c.in_ok-nodes.ensures.part in
    subst (λ (ns : List ℕ). AreNodes (length c.args.parts.now.firsts.items) ns)
    (sym c.deref-3.ensures.value)
    (nodes-are (lists c.args.graph.now) so.root c.args.left.now.items c.in_ok-nodes.nodes.items
    c.take_part.new.left.items so.reached (length c.args.parts.now.firsts.items)
    (c.requires.underway.len ∙ sym c.requires.underway.firsts_len))

pub set_numbers-requires-2 : goal.set_numbers-requires-2
set_numbers-requires-2 c =
    let so = c.in_ok-nodes.ensures.part in
    subst (λ (ns : List ℕ). AreNodes (length c.args.parts.now.steps.items) ns)
    (sym c.deref-5.ensures.value)
    (nodes-are (lists c.args.graph.now) so.root c.args.left.now.items c.in_ok-nodes.nodes.items
    c.take_part.new.left.items so.reached (length c.args.parts.now.steps.items)
    (c.requires.underway.len ∙ sym c.requires.underway.steps_len))

pub returns-clause-underway : goal.returns-clause-underway
returns-clause-underway c =
    let graph = lists c.args.graph.now in
    let nodes = c.in_ok-nodes.nodes.items in
    let firsts = c.args.parts.now.firsts.items in
    let steps = c.args.parts.now.steps.items in
    let first = c.least.result in
    let below = c.greatest_below-below.result in
    let low : All (λ k. first ≤ k) nodes =
    subst (λ (ns : List ℕ). All (λ k. first ≤ k) ns) c.deref-4.ensures.value
    c.least.ensures.least in
    taken graph (edges-within c.args.graph.now c.requires.ways.bases) c.args.left.now.items firsts
    steps c.requires.underway nodes c.take_part.new.left.items c.in_ok-nodes.ensures.part first
    below
    (subst (λ (ns : List ℕ). Contains ns first) c.deref-4.ensures.value c.least.ensures.within)
    (λ n mine. All-contains (λ k. first ≤ k) nodes n low mine)
    (subst (λ (ns : List ℕ). IsGreatestBelow graph steps ns below) c.deref-2.ensures.value
    (subst (λ (ks : List ℕ). IsGreatestBelow graph ks c.deref-2.result.now below)
    c.deref.ensures.value c.greatest_below-below.ensures))
    c.set_numbers.new.numbers.items c.set_numbers-2.new.numbers.items
    (subst (λ (ns : List ℕ). AreSetTo ns 0 first firsts c.set_numbers.new.numbers.items)
    c.deref-3.ensures.value c.set_numbers.ensures.set)
    (subst (λ (ns : List ℕ). AreSetTo ns 0 (below + 1) steps c.set_numbers-2.new.numbers.items)
    c.deref-5.ensures.value c.set_numbers-2.ensures.set)
    c.set_numbers.ensures.len c.set_numbers-2.ensures.len
