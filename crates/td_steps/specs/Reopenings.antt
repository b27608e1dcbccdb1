-- A book that is taken up again stands in a world, and its calls are steps from there on. This
-- project's own.
use Rattle.std.specs.Prelude.{◌≡◌, ℕ, true, List}
use Rattle.atomic_table.specs.Seated.{TableId}
use Rattle.td_rows.specs.Keys.{ascending}
use Rattle.td_rows.specs.Table.{Table, keys_of}
use Rattle.td_supply.specs.Supply.{Stock}
use Rattle.td_journal.specs.Entries.{standing}
use Rattle.td_journal.specs.Replay.{replay, Lawful}
use Rattle.td_core.specs.History.{rows_of}
use Rattle.td_core.specs.Worlds.{WorldView}
use Rattle.td_book.specs.Desk.{BookModel}
use Rattle.td_book.specs.Reopening.{IsReopened}
use Rattle.td_steps.specs.Runs.{Runs}
use Rattle.td_steps.specs.Parts.{offering}
use Rattle.td_steps.specs.Openings.{world_from, OpensWith}
use Rattle.td_steps.specs.Books.{Call, DoAll}
use Rattle.td_steps.specs.Calls.{CallsLead}

-- what `Book::reopen` ensures of a book, for some text over the opening rows, at some board
abbrev pub Reopened : Table → BookModel → Type 0
Reopened opening book =
    (text : List ℕ) × (table : TableId) × (stock : Stock) × (builders : ℕ)
    × IsReopened opening text table stock builders book

-- a reopened book opens with its history. The world begins with the history that the reopening
-- leaves, the entries by which builds are given back among it: these are no steps of it. A world
-- before them needn't be: a journal may leave two rows with one builder, of whom a world says that
-- it has one in hand, or one with a builder whom the new board hasn't. If there is one that a book
-- sees, whose builder still holds the row, the entry is that of a finish (`FinishesRun` in
-- `Builds`, with GivenBack)
abbrev pub ReopeningsAreSteps : Type 0
ReopeningsAreSteps =
    (opening : Table) (book : BookModel) → ascending (keys_of opening) ≡ true
    → Reopened opening book → OpensWith book.history book.fixed

-- the calls of a reopened book are steps from the world that begins with its history: the offers
-- and then the moves of the calls
abbrev pub ReopenedBooksAreSteps : Type 0
ReopenedBooksAreSteps =
    (opening : Table) (book new : BookModel) (calls : List Call)
    → ascending (keys_of opening) ≡ true → Reopened opening book → DoAll calls book new →
    (v : WorldView)
    → Runs (world_from book.history book.fixed.stock book.fixed.builders)
    (offering (rows_of book.history) (keys_of (rows_of book.history))) v
    → CallsLead v calls book new

-- over the opening rows the rows are the standing entries' meanings, each of which applies on what
-- those before it left
pub record AreReplayed (opening : Table) (book : BookModel) : Type 0 where
  pub rows : rows_of book.history ≡ replay opening (standing book.history.journal)
  pub lawful : Lawful opening (standing book.history.journal)

-- after whatever calls since the reopening a book is replayed over the opening rows: the entries of
-- the text count with those that came later
abbrev pub ReopenedAreReplayed : Type 0
ReopenedAreReplayed = (opening : Table) (book new : BookModel) (calls : List Call)
    → ascending (keys_of opening) ≡ true → Reopened opening book → DoAll calls book new
    → AreReplayed opening new
