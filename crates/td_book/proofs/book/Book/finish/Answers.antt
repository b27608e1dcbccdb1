-- `Book::finish`: the calls of `finish_held` and `finish_again`.
use Rattle.std.proofs.Common.{ap}
use Rattle.td_book.specs.declared.book.Book.TheInside.{Inside}
use Rattle.td_book.proofs.Builds.{board_row}
use Rattle.td_book.proofs.book.Book.finish.Goals as goal

pub finish_held-requires-clause-within : goal.finish_held-requires-clause-within
finish_held-requires-clause-within c =
    board_row _ c.self.inside.inner c.args.self.now c.args.seat.now.table _ c.rows-rows.result
    c.in-Holding.ensures.row c.rows-rows.ensures.number c.rows-rows.ensures.table
    (ap (λ (s : Inside). s.inner) c.self-inside.view_is) c.self.invariant c.self.view_is
    c.requires.seat

pub finish_again-requires-clause-within : goal.finish_again-requires-clause-within
finish_again-requires-clause-within c =
    board_row _ c.self.inside.inner c.args.self.now c.args.seat.now.table _ c.rows-rows.result
    c.in-Finished.ensures.row c.rows-rows.ensures.number c.rows-rows.ensures.table
    (ap (λ (s : Inside). s.inner) c.self-inside.view_is) c.self.invariant c.self.view_is
    c.requires.seat
