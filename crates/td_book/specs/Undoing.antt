-- What an undo does to a book. This project's own.
use Rattle.std.specs.Prelude.{◌≡◌, ◌≢◌, ℕ, ◌+◌, ◌≤◌, true, List, [], ◌∷◌, ◌++◌, Option, Some, None}
use Rattle.std.specs.Prelude.{Result, Ok}
use Rattle.std.specs.Prelude.{Err, IsSomeAnd, if◌then◌else◌, length}
use Rattle.td_board.specs.declared.views.DeskTry.{DeskTry}
use Rattle.td_board.specs.declared.views.DeskTry.TheVariants.{WithdrawalLost, ClaimNoted}
use Rattle.td_rows.specs.declared.key.Key.{Key}
use Rattle.td_rows.specs.Keys.{names}
use Rattle.td_rows.specs.Kinds.{cells}
use Rattle.td_change.specs.Saved.{number_of}
use Rattle.td_journal.specs.declared.entry.Mark.{Mark}
use Rattle.td_journal.specs.declared.entry.Mark.TheVariants.{Standing, Undone}
use Rattle.td_journal.specs.declared.entry.Marked.{Marked}
use Rattle.td_journal.specs.Entries.{is_command, entry_at}
use Rattle.td_journal.specs.Touching.{blocker}
use Rattle.td_core.specs.History.{History, rows_of, with_entry, without_entry}
use Rattle.td_core.specs.Refusals.{is_queued_at}
use Rattle.td_book.specs.Seen.{seen_off}
use Rattle.td_book.specs.Desk.{InnerModel, BookModel, Stays, claim_of}
use Rattle.td_book.specs.Tries.{wins_for, offers_for}
use Rattle.td_book.specs.Calls.{off_for}
use Rattle.td_book.specs.declared.undoing.UndoRefusal.{UndoRefusal}
use Rattle.td_book.specs.declared.undoing.UndoRefusal.TheVariants as undos

-- the named rows are withdrawn, and no builder had won one
pub record Unlost (named : List Key) (old new : InnerModel) : Type 0 where
  pub books : new.books ≡ old.books
  pub view : new.view ≡ seen_off named (rows_of new.books.history)
  pub tries : new.tries ≡ old.tries ++ wins_for (rows_of old.books.history) named
  pub stays : Stays old new

-- a builder had won a named row that was out, and the entry of its claim has this number
pub record IsWon (before after : History) (builders : ℕ) (named : List Key) (n : ℕ) : Type 0 where
  pub key : Key
  pub is_named : names named key ≡ true
  pub out : is_queued_at (rows_of before) key ≡ true
  pub by : ℕ
  pub one : 1 ≤ by
  pub some_builder : by ≤ builders
  pub now : after ≡ with_entry before (claim_of by key)
  pub number : n ≡ length before.journal + 1

-- the first withdrawal that the desk lost was the last that it tried: the rows before that one that
-- were out had been withdrawn, and are offered again once the builder's claim is noted
pub record IsStopped (before after : History) (builders : ℕ) (named : List Key)
    (old new : List DeskTry) : Type 0 where
  pub first : List Key
  pub key : Key
  pub rest : List Key
  pub split : named ≡ first ++ key ∷ rest
  pub out : is_queued_at (rows_of before) key ≡ true
  pub by : ℕ
  pub one : 1 ≤ by
  pub some_builder : by ≤ builders
  pub now : after ≡ with_entry before (claim_of by key)
  pub tries : new
      ≡ old ++ (wins_for (rows_of before) first
      ++ WithdrawalLost (number_of (rows_of before) key) by
      ∷ ClaimNoted (number_of (rows_of before) key) by
      ∷ offers_for (rows_of after) (first ++ key ∷ []))

-- a builder had won a named row, at the first withdrawal that the desk lost, and all rows are as at
-- rest
pub record LostOne (old new : InnerModel) (named : List Key) (n : ℕ) : Type 0 where
  pub won : IsWon old.books.history new.books.history old.builders named n
  pub view : new.view ≡ seen_off [] (rows_of new.books.history)
  pub tries : IsStopped old.books.history new.books.history old.builders named old.tries new.tries
  pub stays : Stays old new

-- the rows of the keys are withdrawn, and room for a claim may have been made
pub record AreOff (keys : List Key) (old new : InnerModel) : Type 0 where
  pub history : new.books.history ≡ old.books.history
  pub view : new.view ≡ seen_off keys (rows_of new.books.history)
  pub tries : new.tries ≡ old.tries ++ wins_for (rows_of old.books.history) keys
  pub stays : Stays old new

-- what the withdrawal of keys answers: they are withdrawn, or a builder had won one; memory runs
-- out only if there are any keys
abbrev pub WithdrawAnswer : List Key → InnerModel → InnerModel → Result (Unit {0}) UndoRefusal
    → Type 0
WithdrawAnswer keys old new (Ok u) = AreOff keys old new
WithdrawAnswer keys old new (Err undos.NoMemory) =
    (keys ≢ []) × (new.books.history ≡ old.books.history) × (new.view ≡ old.view)
    × (new.tries ≡ old.tries) × Stays old new
WithdrawAnswer keys old new (Err (undos.Blocked m)) = LostOne old new keys m
WithdrawAnswer keys old new (Err undos.NoSuchEntry) = ⊥
WithdrawAnswer keys old new (Err undos.NotACommand) = ⊥
WithdrawAnswer keys old new (Err undos.AlreadyUndone) = ⊥

-- the kind of entry n has to do with the states of its rows, so an undo withdraws them
abbrev pub HasState : List Marked → ℕ → Type 0
HasState ms n = IsSomeAnd (entry_at ms n) (λ m. (cells m.entry.kind).state ≡ true)

-- what an undo does of a standing command that no later entry touches
abbrev pub UndoOutcome : ℕ → BookModel → BookModel → Result (Unit {0}) UndoRefusal → Type 0
UndoOutcome n old new (Ok u) = new.history ≡ without_entry old.history n
UndoOutcome n old new (Err undos.NoMemory) = new.history ≡ old.history
UndoOutcome n old new (Err (undos.Blocked m)) =
    IsSomeAnd (entry_at old.history.journal n)
    (λ e. IsWon old.history new.history old.fixed.builders (off_for e.entry.kind e.entry.keys) m)
UndoOutcome n old new (Err undos.NoSuchEntry) = ⊥
UndoOutcome n old new (Err undos.NotACommand) = ⊥
UndoOutcome n old new (Err undos.AlreadyUndone) = ⊥

-- what an undo did at the board: the withdrawals of the entry's rows that needed a build, in the
-- order of their keys, up to the first that is lost, and then the offers of those rows that need a
-- build; nothing if memory ran out
abbrev pub UndoTries : ℕ → BookModel → BookModel → Result (Unit {0}) UndoRefusal → Type 0
UndoTries n old new (Ok u) =
    IsSomeAnd (entry_at old.history.journal n) (λ e.
    new.tries ≡ old.tries ++ (wins_for (rows_of old.history) (off_for e.entry.kind e.entry.keys)
    ++ offers_for (rows_of new.history) (off_for e.entry.kind e.entry.keys)))
UndoTries n old new (Err undos.NoMemory) = new.tries ≡ old.tries
UndoTries n old new (Err (undos.Blocked m)) =
    IsSomeAnd (entry_at old.history.journal n) (λ e.
    IsStopped old.history new.history old.fixed.builders (off_for e.entry.kind e.entry.keys)
    old.tries new.tries)
UndoTries n old new (Err undos.NoSuchEntry) = ⊥
UndoTries n old new (Err undos.NotACommand) = ⊥
UndoTries n old new (Err undos.AlreadyUndone) = ⊥

-- what an undo of a standing command that no later entry touches does and answers: what is fixed
-- stays, the history and the tries fit the answer, and memory runs out only if the entry's kind has
-- to do with states
pub record IsUndone (n : ℕ) (old new : BookModel)
    (result : Result (Unit {0}) UndoRefusal) : Type 0 where
  pub fixed : new.fixed ≡ old.fixed
  pub outcome : UndoOutcome n old new result
  pub tries : UndoTries n old new result
  pub memory : result ≡ Err undos.NoMemory → HasState old.history.journal n

-- why an undo is stopped by an entry's mark, or by its blocker if it has one: it is undone already,
-- or blocked
abbrev pub mark_stop : Mark → Option ℕ → Option UndoRefusal
mark_stop Undone b = Some undos.AlreadyUndone
mark_stop Standing (Some m) = Some (undos.Blocked m)
mark_stop Standing None = None

-- why an undo of entry n makes no atomic step, if it makes none
abbrev pub undo_stop : List Marked → ℕ → Option UndoRefusal
undo_stop ms n =
    elim (entry_at ms n) [
      | Some m ↦ if is_command m.entry.kind
          then mark_stop m.mark (blocker ms n)
          else Some undos.NotACommand
      | None ↦ Some undos.NoSuchEntry
    ]

-- what an undo of entry n does and answers: where it is stopped, this refusal, and the book stays;
-- else it is made, or fails, as `IsUndone` says
abbrev pub UndoAnswer : Option UndoRefusal → ℕ → BookModel → BookModel
    → Result (Unit {0}) UndoRefusal → Type 0
UndoAnswer None n old new result = IsUndone n old new result
UndoAnswer (Some r) n old new result = (result ≡ Err r) × (new ≡ old)
