-- The rows with which a book was opened stay over every call of it.
use Rattle.std.proofs.Common.{◌≡◌, ℕ, Option, Some, None, Result, Ok, Err, Bool, ap, ◌∙◌, filter}
use Rattle.std.specs.Prelude.{List, IsSomeAnd}
use Rattle.std.specs.declared.alloc.AllocError.{AllocError}
use Rattle.td_board.specs.declared.outcome.OutcomeCode.{OutcomeCode}
use Rattle.td_board.specs.declared.views.BuilderView.{BuilderView}
use Rattle.td_board.specs.declared.views.DeskTry.{DeskTry}
use Rattle.td_board.specs.declared.views.Hand.{Hand}
use Rattle.td_board.specs.declared.views.Hand.TheVariants.{Free, Holding, Finished}
use Rattle.td_rows.specs.declared.key.Key.{Key}
use Rattle.td_rows.specs.declared.outcome.Outcome.{Outcome}
use Rattle.td_rows.specs.Table.{Table}
use Rattle.td_journal.specs.Entries.{entry_at}
use Rattle.td_journal.specs.declared.entry.Marked.{Marked}
use Rattle.td_core.specs.History.{History}
use Rattle.td_wbread.specs.Command.{CommandParts}
use Rattle.td_book.specs.declared.arriving.ArriveRefusal.{ArriveRefusal}
use Rattle.td_book.specs.declared.arriving.ArriveRefusal.TheVariants as arrivals
use Rattle.td_book.specs.declared.commanding.CommandRefusal.{CommandRefusal}
use Rattle.td_book.specs.declared.commanding.CommandRefusal.TheVariants as commands
use Rattle.td_book.specs.declared.commanding.Taken.{Taken}
use Rattle.td_book.specs.declared.finishing.FinishRefusal.{FinishRefusal}
use Rattle.td_book.specs.declared.finishing.FinishRefusal.TheVariants as finishes
use Rattle.td_book.specs.declared.starting.Job.{Job}
use Rattle.td_book.specs.declared.starting.StartRefusal.{StartRefusal}
use Rattle.td_book.specs.declared.starting.StartRefusal.TheVariants as starts
use Rattle.td_book.specs.declared.undoing.UndoRefusal.{UndoRefusal}
use Rattle.td_book.specs.declared.undoing.UndoRefusal.TheVariants as undos
use Rattle.td_book.specs.Arriving.{ArriveOutcome, SweepOutcome}
use Rattle.td_book.specs.Building.{StartOutcome, Noticed}
use Rattle.td_book.specs.Calls.{CommandOutcome, off_for}
use Rattle.td_book.specs.Commands.{IsDone, is_matched_in, named_by}
use Rattle.td_book.specs.Desk.{BookModel}
use Rattle.td_book.specs.Finishing.{FinishHeld, FinishAgain, FinishOutcome}
use Rattle.td_wbread.specs.Kinds.{kind_of}
use Rattle.td_naming.specs.Skips.{skips_of}
use Rattle.td_book.specs.Undoing.{IsWon, UndoAnswer}
use Rattle.td_book.proofs.Calls.{noting-opening}
use Rattle.td_book.proofs.Steps.{noting_one-opening}

abbrev origin : BookModel → Table
origin b = b.history.opening

all : (old new : BookModel) → new ≡ old → origin new ≡ origin old
all old new same = ap origin same

pub arrive_origin : (k : Key) (old new : BookModel) (r : Result ℕ ArriveRefusal)
    → ArriveOutcome k old new r → origin new ≡ origin old
arrive_origin k old new (Ok n) is = ap origin is.3
arrive_origin k old new (Err arrivals.NoSuchRow) is = all old new is.1
arrive_origin k old new (Err (arrivals.DoesNotApply s)) is = all old new is.4
arrive_origin k old new (Err arrivals.NoMemory) is = all old new is.3

pub sweep_origin : (old new : BookModel) (r : Result (Option ℕ) AllocError) → SweepOutcome old new r
    → origin new ≡ origin old
sweep_origin old new (Ok None) is = all old new is.1
sweep_origin old new (Ok (Some n)) is = ap origin is.1
sweep_origin old new (Err e) is = all old new is

noticed : {tries : List DeskTry} (i b : ℕ) (is : Bool) (old new : BookModel)
    → Noticed i b is tries old new → origin new ≡ origin old
noticed i b is old new seen =
    ap (λ (h : History). h.opening) seen.history ∙ noting_one-opening old.history seen.key seen.by

pub start_origin : (b : ℕ) (hand : Hand) (old new : BookModel) (r : Result Job StartRefusal)
    → StartOutcome b hand old new r → origin new ≡ origin old
start_origin b (Holding i) old new (Ok job) is = noticed i b _ old new is.0
start_origin b (Holding i) old new (Err starts.Mismatch) is = noticed i b _ old new is
start_origin b (Holding i) old new (Err starts.NothingHeld) is = absurd is
start_origin b (Holding i) old new (Err starts.NoMemory) is = all old new is
start_origin b Free old new r is = all old new is.1
start_origin b (Finished i c) old new r is = all old new is.1

held_origin : (i : ℕ) (o : Outcome) (v w : BuilderView) (old new : BookModel)
    (r : Result ℕ FinishRefusal) → FinishHeld i o v w old new r → origin new ≡ origin old
held_origin i o v w old new (Ok n) is =
    ap (λ (h : History). h.opening) is.0.history ∙ noting_one-opening old.history is.0.key is.0.by
held_origin i o v w old new (Err finishes.NoMemory) is = all old new is.0
held_origin i o v w old new (Err finishes.Mismatch) (is, behind, seen, hand) =
    noticed i v.number is old new seen
held_origin i o v w old new (Err finishes.NothingHeld) is = absurd is

again_origin : (i : ℕ) (c : OutcomeCode) (o : Outcome) (b : ℕ) (old new : BookModel)
    (r : Result ℕ FinishRefusal) → FinishAgain i c o b old new r → origin new ≡ origin old
again_origin i c o b old new (Ok n) is = ap (λ (h : History). h.opening) is.1.history
again_origin i c o b old new (Err finishes.NothingHeld) is = all old new is.1
again_origin i c o b old new (Err finishes.NoMemory) is = all old new is.1
again_origin i c o b old new (Err finishes.Mismatch) is = ap origin is.1.1

pub finish_origin : (hand : Hand) (o : Outcome) (v w : BuilderView) (old new : BookModel)
    (r : Result ℕ FinishRefusal) → FinishOutcome hand o v w old new r → origin new ≡ origin old
finish_origin Free o v w old new r is = all old new is.1
finish_origin (Holding i) o v w old new r is = held_origin i o v w old new r is
finish_origin (Finished i c) o v w old new r is = again_origin i c o v.number old new r is.0

pub undo_origin : (stop : Option UndoRefusal) (n : ℕ) (old new : BookModel)
    (r : Result (Unit {0}) UndoRefusal) → UndoAnswer stop n old new r → origin new ≡ origin old
undo_origin (Some s) n old new r is = all old new is.1
undo_origin None n old new (Ok u) is = ap (λ (h : History). h.opening) is.outcome
undo_origin None n old new (Err undos.NoMemory) is = ap (λ (h : History). h.opening) is.outcome
undo_origin None n old new (Err (undos.Blocked m)) is =
    blocked (entry_at old.history.journal n) is.outcome
  where
    blocked : (found : Option Marked)
        → IsSomeAnd found (λ e.
        IsWon old.history new.history old.fixed.builders (off_for e.entry.kind e.entry.keys) m)
        → origin new ≡ origin old
    blocked None h = absurd h
    blocked (Some x) h = ap (λ (y : History). y.opening) h.now
undo_origin None n old new (Err undos.NoSuchEntry) is = absurd is.outcome
undo_origin None n old new (Err undos.NotACommand) is = absurd is.outcome
undo_origin None n old new (Err undos.AlreadyUndone) is = absurd is.outcome

pub command_origin : (c : CommandParts) (old new : BookModel) (r : Result Taken CommandRefusal)
    → IsDone c old new r → origin new ≡ origin old
command_origin c old new r done = at r done.outcome
  where
    at : (r : Result Taken CommandRefusal)
        → CommandOutcome (kind_of c) (named_by c old)
        (filter (is_matched_in c old) (named_by c old))
        (skips_of (is_matched_in c old) (kind_of c) (named_by c old)) old new r
        → origin new ≡ origin old
    at (Ok t) (choices, chosen, enters) =
        ap (λ (h : History). h.opening) enters.1
        ∙ noting-opening old.history (off_for (kind_of c) (named_by c old)) choices
    at (Err commands.NoMemory) same = ap (λ (h : History). h.opening) same
    at (Err (commands.NothingApplies skips)) (choices, chosen, nothing) =
        ap (λ (h : History). h.opening) nothing.1
        ∙ noting-opening old.history (off_for (kind_of c) (named_by c old)) choices
