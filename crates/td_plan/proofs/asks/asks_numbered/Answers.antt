-- `asks_numbered`: what it answers.
use Rattle.std.proofs.Common.{◌≡◌, ◌∙◌, None, Some, slice_get, subst, sym}
use Rattle.std.proofs.lemmas.Option.{same_Some}
use Rattle.std.proofs.lemmas.Result.{IfOk-weaker}
use Rattle.td_plan.specs.declared.movers.Mover.{Mover}
use Rattle.td_plan.specs.inner.Askers.{AreAsksOf}
use Rattle.td_plan.proofs.SourcePlaces.{item-at}
use Rattle.td_plan.proofs.asks.asks_numbered.Goals as goal

pub returns-in_default : goal.returns-in_default
returns-in_default c = λ provided m at.
    absurd (let bad : None ≡ Some m =
    item-at c.args.movers.now c.args.number None c.in_default.ensures.lookup ∙ at in cc)

pub returns : goal.returns
returns c =
    let a = c.args.archive.now in
    let ms = c.args.movers.now in
    let n = c.args.number in
    let mover = c.in-Some.mover.now in
    let here : slice_get ms n ≡ Some mover =
    sym (item-at ms n (Some c.in-Some.mover) c.in-Some.ensures.lookup) in
    IfOk-weaker c.asks_by.result _ _ (λ asks so provided m at.
    subst (λ (x : Mover). AreAsksOf a ms n x asks.items) (same_Some mover m (sym here ∙ at))
    (so ms provided)) c.asks_by.ensures
