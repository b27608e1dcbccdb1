-- No call takes back what the desk has done at the board.
use Rattle.std.proofs.Common.{◌≡◌, ℕ, List, [], ◌∷◌, ◌++◌, Option, Some, None, Result, Ok, Err, ap}
use Rattle.std.proofs.Common.{sym, ◌∙◌, append-nil, append_assoc}
use Rattle.std.specs.Prelude.{IsSomeAnd}
use Rattle.td_board.specs.declared.views.Hand.{Hand}
use Rattle.td_board.specs.declared.views.Hand.TheVariants.{Free, Holding, Finished}
use Rattle.td_board.specs.declared.views.DeskTry.{DeskTry}
use Rattle.td_board.specs.declared.views.BuilderView.{BuilderView}
use Rattle.td_rows.specs.declared.outcome.Outcome.{Outcome}
use Rattle.td_journal.specs.declared.entry.Marked.{Marked}
use Rattle.td_journal.specs.Entries.{entry_at}
use Rattle.td_core.specs.History.{rows_of}
use Rattle.td_wbread.specs.Command.{CommandParts}
use Rattle.td_book.specs.Building.{StartOutcome}
use Rattle.td_book.specs.Calls.{off_for}
use Rattle.td_book.specs.Commands.{IsDone}
use Rattle.td_book.specs.Desk.{BookModel}
use Rattle.td_book.specs.Finishing.{FinishOutcome}
use Rattle.td_book.specs.Tries.{wins_for, offers_for}
use Rattle.td_book.specs.Undoing.{undo_stop, UndoAnswer, IsStopped}
use Rattle.td_book.specs.declared.arriving.ArriveRefusal.TheVariants as arrivals
use Rattle.td_book.specs.declared.commanding.CommandRefusal.{CommandRefusal}
use Rattle.td_book.specs.declared.commanding.CommandRefusal.TheVariants as commands
use Rattle.td_book.specs.declared.commanding.Taken.{Taken}
use Rattle.td_book.specs.declared.finishing.FinishRefusal.{FinishRefusal}
use Rattle.td_book.specs.declared.finishing.FinishRefusal.TheVariants as finishes
use Rattle.td_book.specs.declared.starting.Job.{Job}
use Rattle.td_book.specs.declared.starting.StartRefusal.{StartRefusal}
use Rattle.td_book.specs.declared.starting.StartRefusal.TheVariants as starts
use Rattle.td_book.specs.declared.undoing.UndoRefusal.{UndoRefusal}
use Rattle.td_book.specs.declared.undoing.UndoRefusal.TheVariants as undos
use Rattle.td_book.specs.declared.watching.WatchRefusal.TheVariants as watches
use Rattle.td_steps.specs.Books.{Call, command, undo, start, finish, arrive, sweep, watch, Does}
use Rattle.td_steps.specs.Books.{DoAll}

abbrev pub Grown : BookModel → BookModel → Type 0
Grown old new = (more : List DeskTry) × (new.tries ≡ old.tries ++ more)

grown-none : (old new : BookModel) → new.tries ≡ old.tries → Grown old new
grown-none old new same = ([], same ∙ sym (append-nil old.tries))

grown-same : (old new : BookModel) → new ≡ old → Grown old new
grown-same old new same = grown-none old new (ap (λ (b : BookModel). b.tries) same)

command-grown : (c : CommandParts) (old new : BookModel) (r : Result Taken CommandRefusal)
    → IsDone c old new r → Grown old new
command-grown c old new (Err commands.NoMemory) is = grown-none old new is.tries
command-grown c old new (Err (commands.NothingApplies s)) is = (_, is.tries.tries)
command-grown c old new (Ok taken) is = (_, is.tries.2.tries)

some-and : (x : Option Marked) (P : Marked → Type 0) → IsSomeAnd x P → (m : Marked) × P m
some-and (Some m) P h = (m, h)
some-and None P h = absurd h

undo-grown : (stop : Option UndoRefusal) (n : ℕ) (old new : BookModel)
    (r : Result (Unit {0}) UndoRefusal) → UndoAnswer stop n old new r → Grown old new
undo-grown (Some why) n old new r a = grown-same old new a.1
undo-grown None n old new (Ok u) a =
    let t = some-and (entry_at old.history.journal n) (λ (m : Marked).
    new.tries
    ≡ old.tries ++ (wins_for (rows_of old.history) (off_for m.entry.kind m.entry.keys)
    ++ offers_for (rows_of new.history) (off_for m.entry.kind m.entry.keys))) a.tries in
    (_, t.1)
undo-grown None n old new (Err undos.NoMemory) a = grown-none old new a.tries
undo-grown None n old new (Err (undos.Blocked b)) a =
    let t = some-and (entry_at old.history.journal n) (λ (m : Marked).
    IsStopped old.history new.history old.fixed.builders (off_for m.entry.kind m.entry.keys)
    old.tries new.tries) a.tries in
    (_, t.1.tries)
undo-grown None n old new (Err undos.NoSuchEntry) a = absurd a.outcome
undo-grown None n old new (Err undos.NotACommand) a = absurd a.outcome
undo-grown None n old new (Err undos.AlreadyUndone) a = absurd a.outcome

start-grown : (b : ℕ) (hand : Hand) (old new : BookModel) (r : Result Job StartRefusal)
    → StartOutcome b hand old new r → Grown old new
start-grown b (Holding i) old new (Ok job) o = (_, o.0.tries)
start-grown b (Holding i) old new (Err starts.Mismatch) o = (_, o.tries)
start-grown b (Holding i) old new (Err starts.NothingHeld) o = absurd o
start-grown b (Holding i) old new (Err starts.NoMemory) o = grown-same old new o
start-grown b Free old new r o = grown-same old new o.1
start-grown b (Finished i c) old new r o = grown-same old new o.1

finish-grown : (hand : Hand) (o : Outcome) (v u : BuilderView) (old new : BookModel)
    (r : Result ℕ FinishRefusal) → FinishOutcome hand o v u old new r → Grown old new
finish-grown (Holding i) o v u old new (Ok n) is = (_, is.0.tries)
finish-grown (Holding i) o v u old new (Err finishes.Mismatch) is = (_, is.2.tries)
finish-grown (Holding i) o v u old new (Err finishes.NothingHeld) is = absurd is
finish-grown (Holding i) o v u old new (Err finishes.NoMemory) is = grown-same old new is.0
finish-grown (Finished i c) o v u old new (Ok n) is = (_, is.0.1.tries)
finish-grown (Finished i c) o v u old new (Err finishes.Mismatch) is =
    (is.0.1.0, ap (λ (b : BookModel). b.tries) is.0.1.1)
finish-grown (Finished i c) o v u old new (Err finishes.NothingHeld) is =
    grown-same old new is.0.1
finish-grown (Finished i c) o v u old new (Err finishes.NoMemory) is = grown-same old new is.0.1
finish-grown Free o v u old new r is = grown-same old new is.1

does-grown : (c : Call) (old new : BookModel) → Does c old new → Grown old new
does-grown (command c r) old new d = command-grown c old new r d
does-grown (undo n r) old new d = undo-grown (undo_stop old.history.journal n) n old new r d
does-grown (start b hand r) old new d = start-grown b hand old new r d
does-grown (finish o v u r) old new d = finish-grown v.hand o v u old new r d
does-grown (arrive k (Ok n)) old new d =
    grown-none old new (ap (λ (b : BookModel). b.tries) d.3)
does-grown (arrive k (Err arrivals.NoSuchRow)) old new d = grown-same old new d.1
does-grown (arrive k (Err (arrivals.DoesNotApply s))) old new d = grown-same old new d.4
does-grown (arrive k (Err arrivals.NoMemory)) old new d = grown-same old new d.3
does-grown (sweep (Ok None)) old new d = grown-same old new d.1
does-grown (sweep (Ok (Some n))) old new d = (_, ap (λ (b : BookModel). b.tries) d.1)
does-grown (sweep (Err e)) old new d = grown-same old new d
does-grown (watch groups given (Ok u)) old new d =
    grown-none old new (ap (λ (b : BookModel). b.tries) d.1)
does-grown (watch groups given (Err (watches.NoSuchRow k))) old new d = grown-same old new d.1
does-grown (watch groups given (Err (watches.Twice k))) old new d = grown-same old new d.1
does-grown (watch groups given (Err (watches.BadGroup k))) old new d = grown-same old new d.1
does-grown (watch groups given (Err watches.NoMemory)) old new d = grown-same old new d

pub all-grown : (calls : List Call) (old new : BookModel) → DoAll calls old new → Grown old new
all-grown [] old new same = grown-same old new same
all-grown (c ∷ calls) old new d =
    let one = does-grown c old d.0 d.1 in
    let rest = all-grown calls d.0 new d.2 in (
      one.0 ++ rest.0,
      rest.1 ∙ ap (λ (l : List DeskTry). l ++ rest.0) one.1
          ∙ append_assoc old.tries one.0 rest.0,
    )
