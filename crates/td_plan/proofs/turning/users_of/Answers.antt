-- `users_of`: what it answers and its loop.
use Rattle.std.proofs.Common.{◌≡◌, ℕ, [], inl, inr}
use Rattle.std.proofs.Common.{refl, sym, ap, ◌∙◌, arith}
use Rattle.std.specs.Global.{Vec}
use Rattle.std.proofs.lemmas.Bool.{cases_lt, lt-ltb, le-ltb}
use Rattle.std.proofs.lemmas.List.{get_or-map, get_or_past, length-map}
use Rattle.td_waves.specs.Graph.{bases_of, lists, uses}
use Rattle.td_waves.proofs.Uses.{next_node}
use Rattle.td_plan.proofs.Turned.{are-turned}
use Rattle.td_plan.proofs.turning.users_of.Goals as goal

pub loop-node-preserved : goal.loop-node-preserved
loop-node-preserved c =
    let graph = c.args.graph.now in
    let n = c.loop-node.node in
    let v = c.index-graph-node.result in
    let here : bases_of (lists graph) n ≡ v.items =
    get_or-map (λ (v : Vec ℕ). v.items) graph n v [] c.loop-node-test.true
    ∙ ap (λ (v : Vec ℕ). v.items) (sym c.index-graph-node.is) in
    record {
      uses = λ x t. next_node x n (λ x. uses t (bases_of (lists graph) x)) _ _
          (uses t c.deref.result.now) (c.in_ok-enter.ensures.uses x t)
          (ap (uses t) (c.deref.ensures.value ∙ sym here)) (c.loop-node.invariant.uses x t);
      len = c.enter.ensures.len ∙ c.loop-node.invariant.len;
    }

pub returns : goal.returns
returns c =
    let graph = c.args.graph.now in
    let users = c.loop-node.users.items in
    are-turned graph users c.requires c.loop-node.invariant.len (λ x t.
    elim (cases_lt x c.loop-node.node) [
      | inl below ↦ c.loop-node.invariant.uses x t ∙ (rw (lt-ltb x c.loop-node.node below) refl)
      | inr from ↦
          let none : bases_of (lists graph) x ≡ [] =
          get_or_past (lists graph) x [] (rw length-map (omega arith)) in
          c.loop-node.invariant.uses x t ∙ rw (le-ltb x c.loop-node.node from, none) refl
    ])
