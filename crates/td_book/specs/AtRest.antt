-- What the desk's seat knows and has noted while the book is at rest. This project's own.
use Rattle.std.specs.Prelude.{◌≡◌, ◌↔◌, ℕ, List, [], Some, length, slice_get}
use Rattle.td_board.specs.Seats.{DeskModel}
use Rattle.td_board.specs.declared.views.RowView.{RowView}
use Rattle.td_board.specs.declared.views.RowView.TheVariants.{Out, Known}
use Rattle.td_rows.specs.declared.key.Key.{Key}
use Rattle.td_rows.specs.declared.row.Row.{Row}
use Rattle.td_rows.specs.declared.state.State.TheVariants.{NeedsBuild, Building}
use Rattle.td_rows.specs.Table.{Table, keys_of}
use Rattle.td_core.specs.History.{rows_of}
use Rattle.td_book.specs.Deeds.{IsInside}
use Rattle.td_book.specs.Desk.{BookModel}
use Rattle.td_book.specs.Seen.{seen_off}

-- row by row: the row is offered if and only if it needs a build, and known to be a builder's if
-- and only if it is Building by it
abbrev pub AreServed : List RowView → Table → Type 0
AreServed view t =
    (i : ℕ) (k : Key) (row : Row) → slice_get t i ≡ Some (k, row)
    → ((slice_get view i ≡ Some Out) ↔ (row.state ≡ NeedsBuild))
    × ((b : ℕ) → (slice_get view i ≡ Some (Known b)) ↔ (row.state ≡ Building b))

-- the seat is at the book's board, with a list of each builder; what it knows of the rows follows
-- from them, what it has noted is what the journal says after the entries of before, and what it
-- has tried is what the book's calls say
pub record IsAtRest (seat : DeskModel) (b : BookModel) : Type 0 where
  pub table : seat.table ≡ b.fixed.table
  pub builders : length seat.desk.noted ≡ b.fixed.builders
  pub rows : seat.desk.rows ≡ seen_off [] (rows_of b.history)
  pub served : AreServed seat.desk.rows (rows_of b.history)
  pub noted : IsInside seat.desk.noted (keys_of b.history.opening) b.fixed.since b.history.journal
  pub tries : seat.desk.tried ≡ b.tries
