-- `Steps::of`: its calls, and what it answers.
use Rattle.std.proofs.Common.{◌∙◌, ◌≤◌, List, ap, length, map, subst, sym, ℕ}
use Rattle.std.specs.Prelude.{slice_index}
use Rattle.std.specs.Global.{Vec}
use Rattle.std.specs.List.{All}
use Rattle.td_waves.specs.Graph.{BuildsOn, IsNode, lists}
use Rattle.td_plan.specs.declared.asks.Ask.{Ask}
use Rattle.td_plan.specs.declared.movers.Mover.{Mover}
use Rattle.td_plan.specs.Parts.{ArePlaced, IsLeastOf}
use Rattle.td_plan.specs.inner.Askers.{AreAllAsks}
use Rattle.td_plan.specs.inner.Asking.{AreWithin, owners_of}
use Rattle.td_plan.specs.inner.Searching.{IsGraph}
use Rattle.td_plan.proofs.PlanOf.{all-within}
use Rattle.td_plan.proofs.StepsOf.{steps-of}
use Rattle.td_plan.proofs.Turned.{lists-len}
use Rattle.td_plan.proofs.steps.Steps.of.Goals as goal

pub graph_of-requires : goal.graph_of-requires
graph_of-requires g c =
    let asks = c.in_ok-asks.asks.items in
    subst (λ (l : List (Vec (Vec Ask))).
    All (λ (v : Vec (Vec Ask)). AreWithin (length l) v.items) l)
    (sym c.deref-2.ensures.value)
    (all-within c.args.archive.now c.deref.result.now asks c.in_ok-asks.ensures)

pub parts_of-requires : goal.parts_of-requires
parts_of-requires g c =
    let graph = c.in_ok-graph.graph.items in
    subst (λ (l : List (Vec ℕ)). IsGraph (length l) l) (sym c.deref-3.ensures.value)
    (subst (λ (n : ℕ). IsGraph n graph) (sym c.in_ok-graph.ensures.len)
    c.in_ok-graph.ensures.within)

pub returns-clause-of : goal.returns-clause-of
returns-clause-of g c = λ t marks apart.
    let movers = c.in_ok-movers.movers.items in
    let asks = c.in_ok-asks.asks.items in
    let graph = c.in_ok-graph.graph.items in
    let parts = c.in_ok-parts.parts in
    let owners = λ (v : Vec (Vec Ask)). owners_of v.items in
    let held : AreAllAsks c.args.archive.now movers asks =
    subst (λ (ms : List Mover). AreAllAsks c.args.archive.now ms asks)
    c.deref.ensures.value c.in_ok-asks.ensures in
    let given = c.deref-3.ensures.value in
    steps-of t _ (lists graph) apart (c.in_ok-movers.ensures t marks apart) held
    (c.in_ok-graph.ensures.edges ∙ ap (map owners) c.deref-2.ensures.value)
    (c.in_ok-parts.ensures.firsts_len ∙ ap length given ∙ sym (lists-len graph))
    (c.in_ok-parts.ensures.steps_len ∙ ap length given ∙ sym (lists-len graph))
    (λ k. subst (λ (n : ℕ). slice_index parts.steps.items k ≤ n) (sym (lists-len graph))
    (subst (λ (l : List (Vec ℕ)). slice_index parts.steps.items k ≤ length l) given
    (c.in_ok-parts.ensures.low k)))
    (subst (λ (l : List (Vec ℕ)). ArePlaced (IsNode (lists l)) (BuildsOn (lists l))
    (λ k. slice_index parts.firsts.items k) (λ k. slice_index parts.steps.items k)) given
    c.in_ok-parts.ensures.placed)
    (subst (λ (l : List (Vec ℕ)). (k : ℕ) → IsNode (lists l) k
    → IsLeastOf (IsNode (lists l)) (BuildsOn (lists l)) (slice_index parts.firsts.items k) k) given
    c.in_ok-parts.ensures.firsts)
