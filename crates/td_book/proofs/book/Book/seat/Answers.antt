-- `Book::seat`: what the inside says of the seat, at rest.
use Rattle.std.proofs.Common.{◌∙◌, subst}
use Rattle.td_book.specs.AtRest.{IsAtRest}
use Rattle.td_book.proofs.AtRest.{served}
use Rattle.td_book.proofs.book.Book.seat.Goals as goal

pub returns : goal.returns
returns c =
    let rows = c.seat.ensures.rows ∙ c.self.invariant in
    let now : IsAtRest c.seat.result.now _ = record {
      table = c.seat.ensures.table;
      builders = c.seat.ensures.builders;
      rows = rows;
      served = served _ _ rows;
      noted = c.seat.ensures.noted;
      tries = c.seat.ensures.tries;
    } in
    subst (IsAtRest c.seat.result.now) c.self.view_is now
