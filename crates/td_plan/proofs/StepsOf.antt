-- What steps hold is of their tracker and archive.
use Rattle.std.proofs.Common.{◌≡◌, ◌≤◌, ℕ, List, length, map, ap, subst, ◌∙◌}
use Rattle.std.specs.Prelude.{slice_index}
use Rattle.std.specs.Global.{Vec}
use Rattle.std.proofs.lemmas.List.{length-map}
use Rattle.td_query.specs.Tracking.{Tracking}
use Rattle.td_waves.specs.Graph.{BuildsOn, IsNode}
use Rattle.td_plan.specs.declared.asks.Ask.{Ask}
use Rattle.td_plan.specs.declared.steps.Steps.{Steps}
use Rattle.td_plan.specs.Parts.{ArePlaced, IsLeastOf}
use Rattle.td_plan.specs.Premises.{SourcesAreApart}
use Rattle.td_plan.specs.inner.Askers.{AreAllAsks}
use Rattle.td_plan.specs.inner.Asking.{owners_of}
use Rattle.td_plan.specs.inner.Movers.{AreAffected}
use Rattle.td_plan.specs.inner.Ordering.{ArePartsOf}
use Rattle.td_plan.specs.inner.Stepping.{IsStepsOf}
use Rattle.td_plan.proofs.PlanParts.{affected-firsts, affected-placed}

pub steps-of : (t : Tracking) (steps : Steps) (graph : List (List ℕ))
    → SourcesAreApart steps.archive.now → AreAffected steps.archive.now t steps.movers.items
    → AreAllAsks steps.archive.now steps.movers.items steps.asks.items
    → graph ≡ map (λ (v : Vec (Vec Ask)). owners_of v.items) steps.asks.items
    → length steps.parts.firsts.items ≡ length graph
    → length steps.parts.steps.items ≡ length graph
    → ((k : ℕ) → slice_index steps.parts.steps.items k ≤ length graph)
    → ArePlaced (IsNode graph) (BuildsOn graph)
    (λ k. slice_index steps.parts.firsts.items k) (λ k. slice_index steps.parts.steps.items k)
    → ((k : ℕ) → IsNode graph k → IsLeastOf (IsNode graph) (BuildsOn graph)
    (slice_index steps.parts.firsts.items k) k)
    → IsStepsOf t steps
steps-of t steps graph apart sources asks edges firsts long low placed least =
    let a = steps.archive.now in
    let ms = steps.movers.items in
    let all = steps.asks.items in
    let count : length graph ≡ length ms =
    ap length edges ∙ length-map all (λ (v : Vec (Vec Ask)). owners_of v.items) ∙ asks.len in
    let parts : ArePartsOf (length ms) steps.parts =
    record { firsts = firsts ∙ count; steps = long ∙ count } in
    record {
      apart = apart;
      sources = sources;
      asks = asks;
      parts = parts;
      firsts = affected-firsts a apart t ms sources all asks graph edges steps.parts parts placed
          least;
      low = λ k. subst (λ n. slice_index steps.parts.steps.items k ≤ n) count (low k);
      placed = affected-placed a apart t ms sources all asks graph edges steps.parts parts placed
          least;
    }
