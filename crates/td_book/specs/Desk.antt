-- What contracts see of a book, and of its inside while rows are withdrawn. This project's own.
use Rattle.std.specs.Prelude.{◌≡◌, ℕ, ◌+◌, List, [], ◌∷◌, length}
use Rattle.atomic_table.specs.Seated.{TableId}
use Rattle.td_board.specs.declared.views.RowView.{RowView}
use Rattle.td_board.specs.declared.views.DeskTry.{DeskTry}
use Rattle.td_rows.specs.declared.key.Key.{Key}
use Rattle.td_rows.specs.declared.kind.Kind.TheVariants.{Claim}
use Rattle.td_journal.specs.declared.entry.Entry.{Entry}
use Rattle.td_supply.specs.Supply.{Stock}
use Rattle.td_core.specs.History.{History}
use Rattle.td_core.specs.Keeps.{RoomFor, RoomSpent}
use Rattle.td_book.specs.Watching.{WatchView, WatchedView}

-- the board's table, what is kept, what the desk knows of each row, how many builders there are,
-- how many entries the journal had at the opening, and what the desk has done at the board
pub record InnerModel : Type 0 where
  pub table : TableId
  pub books : WatchedView
  pub view : List RowView
  pub builders : ℕ
  pub since : ℕ
  pub tries : List DeskTry

-- what no call changes: the board's table, what the index offers, how many builders there are, and
-- how many entries the journal had at the opening; and the watched rows, which only `watch` changes
pub record Fixed : Type 0 where
  pub table : TableId
  pub stock : Stock
  pub builders : ℕ
  pub since : ℕ
  pub watch : WatchView

-- a book at rest: the desk's view follows from the history, and room is no part of it
pub record BookModel : Type 0 where
  pub history : History
  pub fixed : Fixed
  pub tries : List DeskTry

-- what no call changes, of the inside of a book
abbrev pub fixed_of : InnerModel → Fixed
fixed_of m =
    record {
      table = m.table;
      stock = m.books.stock;
      builders = m.builders;
      since = m.since;
      watch = m.books.watch;
    }

-- the book at rest that has this inside
abbrev pub book_of : InnerModel → BookModel
book_of m = record { history = m.books.history; fixed = fixed_of m; tries = m.tries }

-- what is fixed stays, part by part
pub record Stays (old new : InnerModel) : Type 0 where
  pub table : new.table ≡ old.table
  pub stock : new.books.stock ≡ old.books.stock
  pub builders : new.builders ≡ old.builders
  pub since : new.since ≡ old.since
  pub watch : new.books.watch ≡ old.books.watch

-- room for an entry on each of the keys, and for one more on all of them
abbrev pub HasRoom : List Key → WatchedView → Type 0
HasRoom keys b = RoomFor (length keys + 1) 2 keys b.room

-- room for an entry on one of the keys
abbrev pub HasOne : List Key → WatchedView → Type 0
HasOne keys b = RoomFor 1 1 keys b.room

-- at most an entry on each of the keys was made
abbrev pub Spent : List Key → WatchedView → WatchedView → Type 0
Spent keys old new = RoomSpent (length keys) keys old.room new.room

-- the claim of a builder
abbrev pub claim_of : ℕ → Key → Entry
claim_of b k = record { kind = Claim b; keys = k ∷ [] }
