-- `Book::finish_held`: the clause `outcome` and the call of `finish-ended`.
use Rattle.std.proofs.Common.{Result, ap, sym, subst, ℕ}
use Rattle.td_rows.specs.declared.outcome.Outcome.{Outcome}
use Rattle.td_book.specs.declared.finishing.FinishRefusal.{FinishRefusal}
use Rattle.td_book.specs.Building.{ended_in, IsEndingAt}
use Rattle.td_book.specs.Desk.{BookModel, book_of}
use Rattle.td_book.specs.Finishing.{FinishHeld}
use Rattle.td_book.proofs.Ends.{held_of}
use Rattle.td_book.proofs.book.Book.finish_held.Goals as goal

pub returns-clause-outcome : goal.returns-clause-outcome
returns-clause-outcome c =
    let a = c.self.inside.inner in
    let b = c.prepare.new.self in
    let z = c.finish-ended.new.self in
    let v = c.args.seat.now.builder in
    let w = c.finish-ended.new.seat.builder in
    let i = c.args.row in
    let kind = c.in-Ok.ending.plan.kind in
    subst (λ (m : BookModel). FinishHeld i c.args.outcome v w m (book_of z) c.ok_or.result)
    c.self.view_is
    (subst (λ (o : Outcome). FinishHeld i o v w (book_of a) (book_of z) c.ok_or.result)
    (ap ended_in c.in-Ok.ensures.kind)
    (subst (λ (r : Result ℕ FinishRefusal).
    FinishHeld i (ended_in kind) v w (book_of a) (book_of z) r) (sym c.ok_or.ensures.value)
    (held_of i (ended_in kind) v w a b z c.finish-ended.result c.prepare.ensures.history
    c.prepare.ensures.tries c.prepare.ensures.stays c.finish-ended.ensures.stays
    c.finish-ended.ensures.some c.finish-ended.ensures.none)))

pub finish-ended-requires-clause-ending : goal.finish-ended-requires-clause-ending
finish-ended-requires-clause-ending c =
    subst (λ (x : ℕ). IsEndingAt c.args.row x c.prepare.new.self.books.history c.in-Ok.ending)
    c.number.ensures.number c.in-Ok.ensures.ending
