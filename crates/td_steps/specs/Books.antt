-- What holds of a book over any list of its calls. This project's own.
use Rattle.std.specs.Prelude.{◌≡◌, ℕ, Bool, true, false, List, [], ◌∷◌, ◌++◌, map, Option, Some}
use Rattle.std.specs.Prelude.{None, Result, Ok, Err, OnOk}
use Rattle.std.specs.List.{list_any}
use Rattle.std.specs.declared.alloc.AllocError.{AllocError}
use Rattle.td_board.specs.declared.views.BuilderView.{BuilderView}
use Rattle.td_board.specs.declared.views.Hand.{Hand}
use Rattle.td_rows.specs.declared.key.Key.{Key}
use Rattle.td_rows.specs.declared.outcome.Outcome.{Outcome}
use Rattle.td_rows.specs.Keys.{ascending}
use Rattle.td_rows.specs.Table.{Table, keys_of}
use Rattle.td_journal.specs.declared.entry.Entry.{Entry}
use Rattle.td_journal.specs.declared.entry.Marked.{Marked}
use Rattle.td_journal.specs.Entries.{standing, CanBeUndone}
use Rattle.td_journal.specs.Replay.{replay, Lawful}
use Rattle.td_journal.specs.Touching.{blocker}
use Rattle.td_wbread.specs.Command.{CommandParts}
use Rattle.td_core.specs.History.{rows_of, with_entry, opened}
use Rattle.td_book.specs.declared.arriving.ArriveRefusal.{ArriveRefusal}
use Rattle.td_book.specs.declared.commanding.CommandRefusal.{CommandRefusal}
use Rattle.td_book.specs.declared.commanding.Taken.{Taken}
use Rattle.td_book.specs.declared.finishing.FinishRefusal.{FinishRefusal}
use Rattle.td_book.specs.declared.starting.Job.{Job}
use Rattle.td_book.specs.declared.starting.StartRefusal.{StartRefusal}
use Rattle.td_book.specs.declared.undoing.UndoRefusal.{UndoRefusal}
use Rattle.td_book.specs.declared.undoing.UndoRefusal.TheVariants.{Blocked}
use Rattle.td_book.specs.declared.watching.WatchRefusal.{WatchRefusal}
use Rattle.td_book.specs.Arriving.{ArriveOutcome, SweepOutcome}
use Rattle.td_book.specs.Building.{StartOutcome}
use Rattle.td_book.specs.Calls.{noting, Choices}
use Rattle.td_book.specs.Commands.{IsDone}
use Rattle.td_book.specs.Desk.{Fixed, BookModel}
use Rattle.td_book.specs.Finishing.{FinishOutcome}
use Rattle.td_book.specs.Undoing.{undo_stop, UndoAnswer, UndoOutcome}
use Rattle.td_book.specs.WatchCalls.{WatchOutcome}
use Rattle.td_steps.specs.Commands.{off_in}
use Rattle.td_steps.specs.Openings.{begun}

-- a call with what it was given and what it answered; a finish has what the builder's seat was
-- before and after it
pub data Call : Type 0 where
  command : CommandParts → Result Taken CommandRefusal → Call
  undo : ℕ → Result (Unit {0}) UndoRefusal → Call
  start : ℕ → Hand → Result Job StartRefusal → Call
  finish : Outcome → BuilderView → BuilderView → Result ℕ FinishRefusal → Call
  arrive : Key → Result ℕ ArriveRefusal → Call
  sweep : Result (Option ℕ) AllocError → Call
  watch : ℕ → List (Key × ℕ) → Result (Unit {0}) WatchRefusal → Call

-- whether a call is a watch
abbrev pub is_watch : Call → Bool
is_watch (watch groups given result) = true
is_watch call = false

-- what the call's contract says of the book before and after it
abbrev pub Does : Call → BookModel → BookModel → Type 0
Does (command c result) old new = IsDone c old new result
Does (undo n result) old new = UndoAnswer (undo_stop old.history.journal n) n old new result
Does (start b hand result) old new = StartOutcome b hand old new result
Does (finish o before behind result) old new =
    FinishOutcome before.hand o before behind old new result
Does (arrive k result) old new = ArriveOutcome k old new result
Does (sweep result) old new = SweepOutcome old new result
Does (watch groups given result) old new = WatchOutcome groups given old new result

-- the contract of each of the calls holds, one after the other
abbrev pub DoAll : List Call → BookModel → BookModel → Type 0
DoAll [] old new = new ≡ old
DoAll (c ∷ calls) old new = (between : BookModel) × Does c old between × DoAll calls between new

-- the entries of a book, without their marks
abbrev pub entries_in : BookModel → List Entry
entries_in b = map (λ (m : Marked). m.entry) b.history.journal

-- the opening rows and what no call changes stay, the watched rows aside, and so does each entry;
-- more are appended
pub record Follows (old new : BookModel) : Type 0 where
  pub opening : new.history.opening ≡ old.history.opening
  pub fixed : new.fixed ≡ record old.fixed { watch = new.fixed.watch }
  pub added : List Entry
  pub entries : entries_in new ≡ entries_in old ++ added

-- over any list of calls the entries stay, and what no call changes, as `Follows` says
abbrev pub EntriesStay : Type 0
EntriesStay = (calls : List Call) (old new : BookModel) → DoAll calls old new → Follows old new

-- over any list of calls without a watch the watched rows stay the same ones
abbrev pub WatchedStay : Type 0
WatchedStay =
    (calls : List Call) (old new : BookModel) → list_any is_watch calls ≡ false
    → DoAll calls old new → new.fixed ≡ old.fixed

-- whatever calls were made since the opening, with whatever answers: the rows (`Book::rows` shows
-- them) are the meanings of the journal's standing entries, folded over the opening rows
abbrev pub RowsAreReplayed : Type 0
RowsAreReplayed =
    (t : Table) (fixed : Fixed) (calls : List Call) (new : BookModel)
    → DoAll calls (begun (opened t) fixed) new
    → rows_of new.history ≡ replay t (standing new.history.journal)

-- whatever calls were made since the opening over rows in order: each of the standing entries
-- applies on the rows that those before it left
abbrev pub EntriesAreLawful : Type 0
EntriesAreLawful =
    (t : Table) (fixed : Fixed) (calls : List Call) (new : BookModel) → ascending (keys_of t) ≡ true
    → DoAll calls (begun (opened t) fixed) new
    → Lawful new.history.opening (standing new.history.journal)

-- the command's entry came after the claims of builders that it had found, and now every row is as
-- it was before the command, except for these claims
pub record IsBack (c : CommandParts) (old between new : BookModel) : Type 0 where
  pub choices : List ℕ
  pub chosen : Choices old.fixed.builders (off_in c old) choices
  pub entry : Entry
  pub stood : between.history ≡ with_entry (noting old.history (off_in c old) choices) entry
  pub rows : rows_of new.history ≡ rows_of (noting old.history (off_in c old) choices)

-- a command that made an entry, and then at once its undo: the journal doesn't refuse it, and where
-- it is undone the rows are back
abbrev pub UndoneAtOnce : Type 0
UndoneAtOnce =
    (c : CommandParts) (old between new : BookModel) (taken : Taken)
    (result : Result (Unit {0}) UndoRefusal) →
    Does (command c (Ok taken)) old between → Does (undo taken.number result) between new →
    (undo_stop between.history.journal taken.number ≡ None) × OnOk result (IsBack c old between new)

-- the undo of a standing command that a later entry blocks is refused for the latest such, and
-- changes nothing
abbrev pub BlockedExactly : Type 0
BlockedExactly =
    (n m : ℕ) (old new : BookModel) (result : Result (Unit {0}) UndoRefusal)
    → CanBeUndone old.history.journal n → blocker old.history.journal n ≡ Some m
    → Does (undo n result) old new → (result ≡ Err (Blocked m)) × (new ≡ old)

-- the undo of a standing command that no later entry blocks is made, unless memory runs out, or a
-- builder's claim was faster
abbrev pub UndoneElse : Type 0
UndoneElse =
    (n : ℕ) (old new : BookModel) (result : Result (Unit {0}) UndoRefusal)
    → CanBeUndone old.history.journal n → blocker old.history.journal n ≡ None
    → Does (undo n result) old new → UndoOutcome n old new result

-- an undo that the journal doesn't refuse, but a builder's claim stops: in the journal after it the
-- number in the refusal is the blocker's, that of the latest standing entry which touches what the
-- undo would have given back
abbrev pub WonNamesTheLatest : Type 0
WonNamesTheLatest = (n m : ℕ) (old new : BookModel) → undo_stop old.history.journal n ≡ None
    → Does (undo n (Err (Blocked m))) old new → blocker new.history.journal n ≡ Some m
