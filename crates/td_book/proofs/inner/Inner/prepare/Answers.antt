-- `Inner::prepare`: the clause `ending`.
use Rattle.std.proofs.Common.{Ok, Err, IfOk, sym, subst}
use Rattle.std.specs.Result.{result_and}
use Rattle.td_core.specs.History.{History}
use Rattle.td_book.specs.declared.building.Ending.{Ending}
use Rattle.td_book.specs.Building.{IsEndingAt}
use Rattle.td_book.proofs.inner.Inner.prepare.Goals as goal

pub returns-clause-ending : goal.returns-clause-ending
returns-clause-ending c =
    let room = c.reserve-room in
    let ending : Ending = c.in_ok-ending.ending in
    let is = λ (e : Ending). IsEndingAt c.args.row c.args.builder room.new.self.books.history e in
    subst (λ r. IfOk r is) (sym c.and.ensures)
    (elim room.result as (λ r. IfOk (result_and r (Ok ending)) is) [
      | Ok u ↦ subst (λ (h : History). IsEndingAt c.args.row c.args.builder h ending)
          (sym room.ensures.history) c.in_ok-ending.ensures.ending
      | Err e ↦ tt
    ])
