-- What a plan holds is of its premises.
use Rattle.std.proofs.Common.{◌≡◌, ℕ, List, length, map, get_or, sym, ap, subst, ◌∙◌, arith}
use Rattle.std.specs.Prelude.{slice_index}
use Rattle.std.specs.Global.{Vec}
use Rattle.std.specs.List.{All}
use Rattle.std.proofs.lemmas.List.{length-map}
use Rattle.std.proofs.lemmas.Option.{slice_get-get_or}
use Rattle.td_indices.specs.Archive.{Contents}
use Rattle.td_waves.specs.Graph.{BuildsOn, IsNode}
use Rattle.td_plan.specs.declared.asks.Ask.{Ask}
use Rattle.td_plan.specs.declared.movers.Mover.{Mover}
use Rattle.td_plan.specs.declared.plan.Plan.{Plan}
use Rattle.td_plan.specs.Parts.{ArePlaced, IsLeastOf}
use Rattle.td_plan.specs.Premises.{AreSound, PackagesAreApart, Premises}
use Rattle.td_plan.specs.inner.Askers.{AreAllAsks}
use Rattle.td_plan.specs.inner.Asking.{AreWithin, owners_of}
use Rattle.td_plan.specs.inner.Inputs.{AreFor}
use Rattle.td_plan.specs.inner.Movers.{AreMovers}
use Rattle.td_plan.specs.inner.Ordering.{ArePartsOf}
use Rattle.td_plan.specs.inner.Planned.{IsPlanOf}
use Rattle.td_plan.proofs.PlanParts.{firsts-low, parts-placed, still-alone}
use Rattle.td_plan.proofs.Waiters.{at-below}

-- the owners of all that is asked for are among the affected sources
pub all-within : (a : Contents) (ms : List Mover) (all : List (Vec (Vec Ask)))
    → AreAllAsks a ms all
    → All (λ (asks : Vec (Vec Ask)). AreWithin (length all) asks.items) all
all-within a ms all are = λ k d low.
    let m = at-below ms k (omega (arith, are.len, low)) in
    subst (λ (n : ℕ). AreWithin n (get_or all k d).items) (sym are.len)
    (are.at k m.0 (get_or all k d) m.1 (slice_get-get_or all k d low)).within

pub plan-of : (p : Premises) (plan : Plan) (graph : List (List ℕ)) → AreFor plan.inputs p
    → AreSound p → PackagesAreApart p → AreMovers p plan.movers.items
    → AreAllAsks p.archive plan.movers.items plan.asks.items
    → graph ≡ map (λ (a : Vec (Vec Ask)). owners_of a.items) plan.asks.items
    → length plan.parts.firsts.items ≡ length graph → length plan.parts.steps.items ≡ length graph
    → ArePlaced (IsNode graph) (BuildsOn graph)
    (λ k. slice_index plan.parts.firsts.items k) (λ k. slice_index plan.parts.steps.items k)
    → ((k : ℕ) → IsNode graph k → IsLeastOf (IsNode graph) (BuildsOn graph)
    (slice_index plan.parts.firsts.items k) k)
    → IsPlanOf p plan
plan-of p plan graph inputs sound apart movers asks edges firsts steps placed least =
    let ms = plan.movers.items in
    let all = plan.asks.items in
    let long : length graph ≡ length ms =
    ap length edges ∙ length-map all (λ (a : Vec (Vec Ask)). owners_of a.items) ∙ asks.len in
    let parts : ArePartsOf (length ms) plan.parts =
    record { firsts = firsts ∙ long; steps = steps ∙ long } in
    record {
      inputs = inputs;
      sound = sound;
      apart = apart;
      movers = movers;
      asks = asks;
      parts = parts;
      firsts = firsts-low p sound ms movers all asks graph edges plan.parts parts placed least;
      still = still-alone p sound ms movers all asks graph edges plan.parts parts placed least;
      placed = parts-placed p sound ms movers all asks graph edges plan.parts parts placed least;
    }
