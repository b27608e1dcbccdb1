-- What the lines that a clerk answers at a desk ask of the reports. This project's own.
use Rattle.std.specs.Prelude.{Option, IfSome}
use Rattle.std.specs.Borrow.{Bor}
use Rattle.td_rows.specs.Table.{Table}
use Rattle.td_book.specs.Desk.{Fixed}

-- if there are reports, they fit any book: whatever rows it opened with, and whatever no call
-- changes of it
abbrev pub FitAnyBook : {T : Type 0} → (T → Table → Fixed → Type 0) → Option (Bor T) → Type 0
FitAnyBook fits reports =
    IfSome reports (λ r. (opening : Table) (fixed : Fixed) → fits r.now opening fixed)
