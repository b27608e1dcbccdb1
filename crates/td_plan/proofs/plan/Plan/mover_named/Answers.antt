-- `Plan::mover_named`: by the source's number, and that among the affected ones.
use Rattle.std.proofs.Common.{◌∙◌, None, Option, Some, List, ap, option_map, slice_get}
use Rattle.std.proofs.Common.{subst, sym}
use Rattle.std.specs.Borrow.{Bor}
use Rattle.td_indices.specs.Archive.{Contents, number_named}
use Rattle.td_plan.specs.declared.movers.Mover.{Mover}
use Rattle.td_plan.specs.inner.Planned.{IsMoverNamed}
use Rattle.td_plan.proofs.MoverNumbers.{mover-known, none-known, none-numbered}
use Rattle.td_plan.proofs.SourcePlaces.{item-at}
use Rattle.td_plan.proofs.plan.Plan.mover_named.Goals as goal

pub returns-in_err-source : goal.returns-in_err-source
returns-in_err-source c = λ p is are.
    let plan = c.args.self.now in
    let name = c.args.name.now in
    subst (λ (o : Option (Bor Mover)). IsMoverNamed p plan.movers.items name
    (option_map (λ (m : Bor Mover). m.now) o)) (sym c.from_residual.ensures)
    (none-numbered p is.sound plan.movers.items is.movers name
    (c.in_err-source.ensures.number
    ∙ ap (λ (a : Contents). number_named a name) is.inputs.archive))

pub returns-in_err-number : goal.returns-in_err-number
returns-in_err-number c = λ p is are.
    let plan = c.args.self.now in
    let name = c.args.name.now in
    let source = c.in_ok-source.source in
    subst (λ (o : Option (Bor Mover)). IsMoverNamed p plan.movers.items name
    (option_map (λ (m : Bor Mover). m.now) o)) (sym c.from_residual-in_err-number.ensures)
    (none-known p is.sound plan.movers.items is.movers name source
    (c.in_ok-source.ensures.number
    ∙ ap (λ (a : Contents). number_named a name) is.inputs.archive) c.args.numbers.now are
    (item-at c.args.numbers.now source None c.in_err-number.ensures.lookup))

pub returns : goal.returns
returns c = λ p is are.
    let plan = c.args.self.now in
    let name = c.args.name.now in
    let source = c.in_ok-source.source in
    let number = c.in_ok-number.number.now in
    mover-known p is.sound plan.movers.items is.movers name source
    (c.in_ok-source.ensures.number
    ∙ ap (λ (a : Contents). number_named a name) is.inputs.archive) c.args.numbers.now are number
    (item-at c.args.numbers.now source (Some c.in_ok-number.number)
    c.in_ok-number.ensures.lookup) (option_map (λ (m : Bor Mover). m.now) c.get-2.result)
    (item-at c.deref.result.now number c.get-2.result c.get-2.ensures.lookup
    ∙ ap (λ (l : List Mover). slice_get l number) c.deref.ensures.value)
