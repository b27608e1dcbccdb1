-- What the calls of a desk answer, each over some book of the desk, and what receipt a clerk gets.
-- This project's own.
use Rattle.std.specs.Prelude.{◌≡◌, ◌≢◌, ◌⊎◌, ℕ, false, not, List, [], ◌∷◌, Option, None, Result}
use Rattle.std.specs.Prelude.{Ok, Err}
use Rattle.std.specs.Prelude.{IfOk, filter, length, map}
use Rattle.std.specs.declared.alloc.AllocError.{AllocError}
use Rattle.atomic_table.specs.Seated.{TableId}
use Rattle.td_rows.specs.declared.key.Key.{Key}
use Rattle.td_rows.specs.declared.kind.Kind.TheVariants as kinds
use Rattle.td_rows.specs.declared.outcome.Outcome.{Outcome}
use Rattle.td_rows.specs.Keys.{names}
use Rattle.td_journal.specs.declared.entry.Mark.{Mark}
use Rattle.td_journal.specs.Entries.{standing}
use Rattle.td_journal.specs.Replay.{Lawful}
use Rattle.td_core.specs.History.{rows_of}
use Rattle.td_wbread.specs.Command.{CommandParts}
use Rattle.td_wbread.specs.Kinds.{kind_of}
use Rattle.td_board.specs.Seats.{BuilderModel}
use Rattle.td_board.specs.declared.views.BuilderView.{BuilderView}
use Rattle.td_board.specs.declared.views.Hand.TheVariants.{Free, Holding}
use Rattle.td_board.specs.Knowledge.{with_finish}
use Rattle.td_book.specs.declared.arriving.ArriveRefusal.{ArriveRefusal}
use Rattle.td_book.specs.declared.commanding.CommandRefusal.{CommandRefusal}
use Rattle.td_book.specs.declared.commanding.Taken.{Taken}
use Rattle.td_book.specs.declared.undoing.UndoRefusal.{UndoRefusal}
use Rattle.td_book.specs.declared.undoing.UndoRefusal.TheVariants as undos
use Rattle.td_book.specs.declared.starting.Job.{Job}
use Rattle.td_book.specs.declared.starting.StartRefusal.{StartRefusal}
use Rattle.td_book.specs.declared.finishing.FinishRefusal.{FinishRefusal}
use Rattle.td_book.specs.declared.finishing.FinishRefusal.TheVariants as finishes
use Rattle.td_naming.specs.declared.skips.Skip.{Skip}
use Rattle.td_book.specs.Arriving.{ArriveOutcome, SweepOutcome}
use Rattle.td_book.specs.Building.{IsJobAt, StartOutcome}
use Rattle.td_book.specs.Commands.{IsDone, named_by}
use Rattle.td_book.specs.Deeds.{code_of}
use Rattle.td_book.specs.Desk.{BookModel}
use Rattle.td_book.specs.Finishing.{FinishHeld, FinishOutcome}
use Rattle.td_book.specs.Ready.{IsReady, is_any_queued}
use Rattle.td_book.specs.Undoing.{UndoAnswer, undo_stop}
use Rattle.td_desk.specs.declared.receipt.Receipt.{Receipt}
use Rattle.td_desk.specs.declared.receipt.Receipt.TheVariants.{Made}
use Rattle.td_desk.specs.Changes.{changes}
use Rattle.td_desk.specs.Clerks.{ClerkModel, with_receipt}
use Rattle.td_desk.specs.GoingOn.{Begins}
use Rattle.td_desk.specs.Names.{Origin}

-- ---- 1. receipts

-- the keys of the skips
abbrev pub skipped_keys : List Skip → List Key
skipped_keys skips = map (λ s. s.key) skips

-- the named keys without those that were skipped
abbrev pub without : List Key → List Skip → List Key
without named skips = filter (λ k. not (names (skipped_keys skips) k)) named

-- the receipt of a command: its own kind, and the rows that it names in the book without the
-- answered skips
abbrev pub command_receipt : CommandParts → BookModel → Taken → Receipt
command_receipt c old taken = Made taken.number (kind_of c) (without (named_by c old) taken.skips)

-- the receipt of an arrival
abbrev pub arrival_receipt : Key → ℕ → Receipt
arrival_receipt k n = Made n kinds.Arrive (k ∷ [])

-- ---- 2. answers, over a book of the desk

-- a book that may lie under the desk's lock: at its board, with the builders of that, with a lawful
-- history over the rows with which the desk was opened, with the offers of then, and with the
-- entries of then before its own
pub record IsOfDesk (table : TableId) (origin : Origin) (book : BookModel) : Type 0 where
  pub at : book.fixed.table ≡ table
  pub over : book.history.opening ≡ origin.rows
  pub stocked : book.fixed.stock ≡ origin.stock
  pub staffed : book.fixed.builders ≡ origin.builders
  pub began : Begins origin book.history.journal
  pub lawful : Lawful book.history.opening (standing book.history.journal)

-- a book of the desk that a clerk of this many parts of the ledger, with these receipts, may meet.
-- If the clerk has all parts, the book has as many changes since its opening as there are receipts
pub record IsMetBy (table : TableId) (origin : Origin) (opened : List Mark) (parts : ℕ)
    (receipts : List Receipt) (book : BookModel) : Type 0 where
  pub of_desk : IsOfDesk table origin book
  pub counted : parts ≡ 1024 → length receipts ≡ length (changes opened book)

-- the answer to a command, if some books may be met, and the clerk's receipt if it is accepted
abbrev pub Commanding : CommandParts → (BookModel → Type 0) → ClerkModel → ClerkModel
    → Result Taken CommandRefusal → Type 0
Commanding c Met clerk after result =
    (old : BookModel) × (new : BookModel) × Met old × IsDone c old new result
    × IfOk result (λ t. after ≡ with_receipt (command_receipt c old t) clerk)

-- what a book answers to the undo of entry n; but if memory runs out before it is undone, an undo
-- that the marks don't refuse is answered so, and all stays
abbrev pub UndoTold : ℕ → BookModel → BookModel → Result (Unit {0}) UndoRefusal → Type 0
UndoTold n old new result =
    ((result ≡ Err undos.NoMemory) × (undo_stop old.history.journal n ≡ None) × (new ≡ old))
    ⊎ UndoAnswer (undo_stop old.history.journal n) n old new result

-- the answer to an undo: what a book that may be met answers to it so
abbrev pub Undoing : ℕ → (BookModel → Type 0) → Result (Unit {0}) UndoRefusal → Type 0
Undoing n Met result =
    (old : BookModel) × (new : BookModel) × Met old × UndoTold n old new result

-- the answer to an arrival: what a book that may be met answers to that of this key's build
abbrev pub Arriving : Key → (BookModel → Type 0) → Result ℕ ArriveRefusal → Type 0
Arriving k Met result =
    (old : BookModel) × (new : BookModel) × Met old × ArriveOutcome k old new result

-- the answer to a sweep: what a book that may be met answers to it
abbrev pub Sweeping : (BookModel → Type 0) → Result (Option ℕ) AllocError → Type 0
Sweeping Met result = (old : BookModel) × (new : BookModel) × Met old × SweepOutcome old new result

-- the answer to a start: what a book of the desk answers to the builder of this seat, by its hand
abbrev pub Starting : BuilderModel → TableId → Origin → Result Job StartRefusal → Type 0
Starting seat table origin result =
    (old : BookModel) × (new : BookModel) × IsOfDesk table origin old
    × StartOutcome seat.builder.number seat.builder.hand old new result

-- what a book answers to a finish with this outcome, and the builder after it; but if memory runs
-- out before the book is asked, a builder whose hand isn't free gets that answer, and all stays
abbrev pub FinishTold : Outcome → BuilderView → BuilderView → BookModel → BookModel
    → Result ℕ FinishRefusal → Type 0
FinishTold outcome v w old new result =
    ((result ≡ Err finishes.NoMemory) × (v.hand ≢ Free) × (new ≡ old) × (w ≡ v))
    ⊎ FinishOutcome v.hand outcome v w old new result

-- the answer to a finish: what a book of the desk answers to it so
abbrev pub Finishing : Outcome → BuilderModel → BuilderModel → TableId → Origin
    → Result ℕ FinishRefusal → Type 0
Finishing outcome seat after table origin result =
    (old : BookModel) × (new : BookModel) × IsOfDesk table origin old
    × FinishTold outcome seat.builder after.builder old new result

-- ---- 3. what may be answered to builders

-- which numbers may be offered to builders: those of the rows that need a build in a book of the
-- desk, in their order
abbrev pub MayBeReady : TableId → Origin → List ℕ → Type 0
MayBeReady table origin numbers =
    (b : BookModel) × IsOfDesk table origin b × IsReady (rows_of b.history) numbers

-- which jobs may be answered to the builder of a seat: those of a book of the desk, for the row in
-- hand
abbrev pub MayStart : TableId → Origin → BuilderModel → Job → Type 0
MayStart table origin s job =
    (row : ℕ) × (b : BookModel) × (s.builder.hand ≡ Holding row) × IsOfDesk table origin b
    × IsJobAt row b job

-- the builder of a seat, as it was, told a book of the desk that the build of the row in hand ended
-- with this outcome, text included, and the builder's build ended; the book answered so
abbrev pub IsToldEnd : TableId → Origin → BuilderModel → Outcome → Result ℕ FinishRefusal → Type 0
IsToldEnd table origin s outcome answer =
    (row : ℕ) × (old : BookModel) × (new : BookModel) × (s.builder.hand ≡ Holding row)
    × IsOfDesk table origin old
    × FinishHeld row outcome s.builder (with_finish row (code_of outcome) s.builder) old new answer

-- the outcomes with which the build of the row in a seat's hand may end: the builder told one to a
-- book of the desk, which journalled it
abbrev pub MayEnd : TableId → Origin → BuilderModel → Outcome → Type 0
MayEnd table origin s outcome = (n : ℕ) × IsToldEnd table origin s outcome (Ok n)

-- the outcomes with which the build of the row in a seat's hand may break off: the builder told one
-- to a book of the desk, which refused it
abbrev pub MayBreakOff : TableId → Origin → BuilderModel → Outcome → Type 0
MayBreakOff table origin s outcome =
    (refusal : FinishRefusal) × IsToldEnd table origin s outcome (Err refusal)

-- a book of the desk was seen in which no row waits for a builder
abbrev pub IsAtEnd : TableId → Origin → Type 0
IsAtEnd table origin =
    (b : BookModel) × IsOfDesk table origin b × (is_any_queued (rows_of b.history) ≡ false)
