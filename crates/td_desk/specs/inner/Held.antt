-- What is kept of the book under a desk's lock. This project's own.
use Rattle.std.specs.Prelude.{◌≡◌, ℕ, List, true, length}
use Rattle.atomic_table.specs.Seated.{TableId}
use Rattle.td_journal.specs.declared.entry.Mark.{Mark}
use Rattle.td_book.specs.Desk.{BookModel}
use Rattle.td_desk.specs.declared.tick.Tick.{Tick}
use Rattle.td_desk.specs.Changes.{changes, still_undone}
use Rattle.td_desk.specs.GoingOn.{Begins}
use Rattle.td_desk.specs.Names.{Origin}
use Rattle.td_desk.specs.inner.Ticks.{AreBegun}

-- a book at this board with its builders over the opening rows, with the offers and the entries of
-- the opening: what was undone then is undone still, the ledger's total is the number of the changes
-- since, and each entry has its tick
pub record IsHeld (table : TableId) (origin : Origin) (opened : List Mark) (book : BookModel)
    (total : ℕ) (ticks : List Tick) : Type 0 where
  pub at : book.fixed.table ≡ table
  pub over : book.history.opening ≡ origin.rows
  pub stocked : book.fixed.stock ≡ origin.stock
  pub staffed : book.fixed.builders ≡ origin.builders
  pub began : Begins origin book.history.journal
  pub still : still_undone book.history.journal opened ≡ true
  pub counted : length (changes opened book) ≡ total
  pub ticked : AreBegun opened (length book.history.journal) ticks
