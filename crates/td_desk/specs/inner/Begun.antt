-- The book with which a desk begins. This project's own.
use Rattle.std.specs.Prelude.{◌≡◌, true, List, []}
use Rattle.atomic_table.specs.Seated.{TableId}
use Rattle.td_journal.specs.declared.entry.Mark.{Mark}
use Rattle.td_book.specs.Desk.{BookModel}
use Rattle.td_desk.specs.Changes.{changes, still_undone}
use Rattle.td_desk.specs.GoingOn.{Begins}
use Rattle.td_desk.specs.Names.{Origin}

-- a book at this board with its builders over the opening rows, with the offers and the entries of
-- the opening: the first of its entries have these marks, what was undone is undone still, and no
-- change was made since
pub record IsBegun (table : TableId) (origin : Origin) (opened : List Mark)
    (book : BookModel) : Type 0 where
  pub at : book.fixed.table ≡ table
  pub over : book.history.opening ≡ origin.rows
  pub stocked : book.fixed.stock ≡ origin.stock
  pub staffed : book.fixed.builders ≡ origin.builders
  pub began : Begins origin book.history.journal
  pub still : still_undone book.history.journal opened ≡ true
  pub none : changes opened book ≡ []
