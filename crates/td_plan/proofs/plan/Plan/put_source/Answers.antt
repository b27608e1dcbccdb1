-- `Plan::put_source`: the lines of the source with the number.
use Rattle.std.proofs.Common.{◌≡◌, ◌<◌, List, None, Some, ap, arith, length, refl, slice_get, sym}
use Rattle.std.proofs.Common.{◌∙◌}
use Rattle.std.proofs.lemmas.Option.{slice_get_within}
use Rattle.std.proofs.lemmas.Result.{on_ok_weaker}
use Rattle.std.specs.Global.{Vec}
use Rattle.td_plan.specs.declared.asks.Ask.{Ask}
use Rattle.td_plan.specs.inner.Planned.{placing_in}
use Rattle.td_plan.specs.inner.Waiters.{kept_of}
use Rattle.td_plan.proofs.PlanSteps.{plan-told}
use Rattle.td_plan.proofs.SourcePlaces.{item-at}
use Rattle.td_plan.proofs.Waiters.{at-below}
use Rattle.td_plan.proofs.plan.Plan.put_source.Goals as goal

pub returns-in_default-clause-ok : goal.returns-in_default-clause-ok
returns-in_default-clause-ok c = λ p m is at moving.
    let plan = c.args.self.now in
    let number = c.args.number in
    let low : number < length plan.asks.items =
    omega (arith, is.asks.len, slice_get_within plan.movers.items number m at) in
    let asks = at-below plan.asks.items number low in
    absurd (let bad : None ≡ Some asks.0 =
    item-at c.deref.result.now number None c.in_default.ensures.lookup
    ∙ ap (λ (l : List (Vec (Vec Ask))). slice_get l number) c.deref.ensures.value ∙ asks.1 in cc)

pub returns-clause-ok : goal.returns-clause-ok
returns-clause-ok c =
    let plan = c.args.self.now in
    let number = c.args.number in
    let asks = c.in-Some.asks in
    let mine : slice_get plan.asks.items number ≡ Some asks.now =
    ap (λ (l : List (Vec (Vec Ask))). slice_get l number) (sym c.deref.ensures.value)
    ∙ sym (item-at c.deref.result.now number (Some asks) c.in-Some.ensures.lookup) in
    on_ok_weaker c.put.result (λ lines p m is at moving.
    lines p (placing_in plan) (kept_of m)
    (plan-told p plan is number m asks.now at moving mine _ refl c.deref-2.ensures.value
    c.deref-3.ensures.value refl refl)) c.put.ensures.ok
