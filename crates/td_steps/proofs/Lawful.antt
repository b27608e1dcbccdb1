-- Over any list of calls since the opening the standing entries are lawful.
use Rattle.std.proofs.Common.{◌≡◌, ℕ, Bool, true, false, ◌&&◌, List, [], ◌∷◌, filter, Option, Some}
use Rattle.std.proofs.Common.{None, Result, Ok, Err, if◌then◌else◌, ap, refl, sym, subst}
use Rattle.std.specs.Prelude.{IsSomeAnd}
use Rattle.td_board.specs.declared.views.BuilderView.{BuilderView}
use Rattle.td_board.specs.declared.views.DeskTry.{DeskTry}
use Rattle.td_board.specs.declared.views.Hand.{Hand}
use Rattle.td_board.specs.declared.views.Hand.TheVariants.{Free, Holding, Finished}
use Rattle.td_rows.specs.declared.key.Key.{Key}
use Rattle.td_rows.specs.declared.kind.Kind.TheVariants as kinds
use Rattle.td_rows.specs.declared.outcome.Outcome.{Outcome}
use Rattle.td_rows.specs.Keys.{ascending}
use Rattle.td_rows.specs.Table.{keys_of, AppliesOn}
use Rattle.td_journal.specs.declared.entry.Entry.{Entry}
use Rattle.td_journal.specs.declared.entry.Marked.{Marked}
use Rattle.td_journal.specs.Entries.{is_standing, standing, standing_entry, entry_at, CanBeUndone}
use Rattle.td_journal.specs.Replay.{Lawful}
use Rattle.td_journal.specs.Touching.{blocker}
use Rattle.td_journal.proofs.Undoing.{standing-append, Lawful-push, undo_is_lawful}
use Rattle.td_wbread.specs.Command.{CommandParts}
use Rattle.td_core.specs.Committing.{takes}
use Rattle.td_core.specs.History.{History, rows_of, with_entry, without_entry, opened}
use Rattle.td_core.specs.Offers.{supply_now}
use Rattle.td_core.specs.Refusals.{is_queued_at}
use Rattle.td_core.proofs.Freeing.{AppliesOn-freed}
use Rattle.td_core.proofs.Taking.{AppliesOn-filter}
use Rattle.td_core.proofs.WorldSteps.{AppliesOn-one}
use Rattle.td_book.specs.declared.arriving.ArriveRefusal.TheVariants as arrivals
use Rattle.td_book.specs.declared.watching.WatchRefusal.TheVariants as watches
use Rattle.td_book.specs.declared.commanding.CommandRefusal.{CommandRefusal}
use Rattle.td_book.specs.declared.commanding.CommandRefusal.TheVariants as commands
use Rattle.td_book.specs.declared.commanding.Taken.{Taken}
use Rattle.td_book.specs.declared.finishing.FinishRefusal.{FinishRefusal}
use Rattle.td_book.specs.declared.finishing.FinishRefusal.TheVariants as finishes
use Rattle.td_book.specs.declared.starting.Job.{Job}
use Rattle.td_book.specs.declared.starting.StartRefusal.{StartRefusal}
use Rattle.td_book.specs.declared.starting.StartRefusal.TheVariants as starts
use Rattle.td_book.specs.declared.undoing.UndoRefusal.{UndoRefusal}
use Rattle.td_book.specs.declared.undoing.UndoRefusal.TheVariants as undos
use Rattle.td_book.specs.Arriving.{freed_now}
use Rattle.td_book.specs.Building.{StartOutcome, Noticed, is_built_at}
use Rattle.td_book.specs.Calls.{is_lost, noting_one, noting, off_for}
use Rattle.td_book.specs.Commands.{named_by, is_matched_in, IsDone}
use Rattle.td_book.specs.Desk.{BookModel, claim_of}
use Rattle.td_book.specs.Finishing.{FinishOutcome}
use Rattle.td_wbread.specs.Kinds.{kind_of}
use Rattle.td_book.specs.Undoing.{undo_stop, UndoAnswer, IsWon}
use Rattle.td_book.proofs.Steps.{up_now}
use Rattle.td_steps.specs.Commands.{off_in}
use Rattle.td_steps.specs.Books.{Call, command, undo, start, finish, arrive, sweep, watch, Does}
use Rattle.td_steps.specs.Books.{DoAll, EntriesAreLawful}
use Rattle.td_steps.proofs.Parts.{queued-row}
use Rattle.td_steps.proofs.Builds.{built-row}
use Rattle.td_steps.proofs.Undos.{stop-none}
use Rattle.td_steps.specs.Openings.{begun}

-- ---- 1. of histories

pub record Sound (h : History) : Type 0 where
  pub up : ascending (keys_of h.opening) ≡ true
  pub lawful : Lawful h.opening (standing h.journal)

sound-to : (a b : History) → Sound a → b ≡ a → Sound b
sound-to a b s same = subst Sound (sym same) s

sound-entry : (h : History) (e : Entry) → Sound h → AppliesOn (rows_of h) e.kind e.keys
    → Sound (with_entry h e)
sound-entry h e s applies = record {
  up = s.up;
  lawful = subst (Lawful h.opening) (sym (standing-append h.journal (standing_entry e ∷ [])))
      (Lawful-push h.opening (standing h.journal) e s.lawful applies);
}

sound-undone : (h : History) (n : ℕ) (c : CanBeUndone h.journal n) → blocker h.journal n ≡ None
    → Sound h → Sound (without_entry h n)
sound-undone h n c free s =
    record {
      up = s.up;
      lawful = undo_is_lawful h.opening h.journal n c.marked c.there (ap is_standing c.stands) free
          s.lawful;
    }

sound-claim : (h : History) (k : Key) (b : ℕ) → is_queued_at (rows_of h) k ≡ true → Sound h
    → Sound (with_entry h (claim_of b k))
sound-claim h k b queued s =
    let q = queued-row h k queued in
    sound-entry h (claim_of b k) s
    (AppliesOn-one (rows_of h) (kinds.Claim b) k q.row q.found q.queued)

sound-one : (h : History) (k : Key) (b : ℕ) → Sound h → Sound (noting_one h k b)
sound-one h k b s = at (is_queued_at (rows_of h) k) (is_lost b) refl
  where
    at : (q l : Bool) → is_queued_at (rows_of h) k ≡ q
        → Sound (if q && l then with_entry h (claim_of b k) else h)
    at true true queued = sound-claim h k b queued s
    at true false queued = s
    at false l queued = s

sound-noting : (h : History) (ks : List Key) (bs : List ℕ) → Sound h → Sound (noting h ks bs)
sound-noting h [] bs s = s
sound-noting h (k ∷ ks) [] s = s
sound-noting h (k ∷ ks) (b ∷ bs) s = sound-noting (noting_one h k b) ks bs (sound-one h k b s)

sound-ended : (h : History) (k : Key) (b : ℕ) (o : Outcome) → is_built_at (rows_of h) k b ≡ true
    → Sound h → Sound (with_entry h (record { kind = kinds.Outcome b o; keys = k ∷ [] }))
sound-ended h k b o built s =
    let r = built-row h k b built in
    sound-entry h (record { kind = kinds.Outcome b o; keys = k ∷ [] }) s
    (AppliesOn-one (rows_of h) (kinds.Outcome b o) k r.row r.found r.built)

-- ---- 2. of each call

same-book : (old new : BookModel) → Sound old.history → new ≡ old → Sound new.history
same-book old new s same =
    sound-to old.history new.history s (ap (λ (b : BookModel). b.history) same)

command-sound : (c : CommandParts) (old new : BookModel) (r : Result Taken CommandRefusal)
    → IsDone c old new r → Sound old.history → Sound new.history
command-sound c old new (Err commands.NoMemory) is s = sound-to old.history new.history s is.outcome
command-sound c old new (Err (commands.NothingApplies left)) is s =
    sound-to (noting old.history (off_in c old) is.outcome.0) new.history
    (sound-noting old.history (off_in c old) is.outcome.0 s) is.outcome.2.1
command-sound c old new (Ok taken) is s =
    let now = noting old.history (off_in c old) is.outcome.0 in
    let matched = filter (is_matched_in c old) (named_by c old) in
    let e : Entry = record { kind = kind_of c; keys = takes (rows_of now) (kind_of c) matched } in
    sound-to (with_entry now e) new.history
    (sound-entry now e (sound-noting old.history (off_in c old) is.outcome.0 s)
    (AppliesOn-filter (rows_of now) (kind_of c) matched)) is.outcome.2.1

won-sound : (x : Option Marked) (old new : History) (builders n : ℕ)
    → IsSomeAnd x (λ (e : Marked). IsWon old new builders (off_for e.entry.kind e.entry.keys) n)
    → Sound old → Sound new
won-sound None old new builders n o s = absurd o
won-sound (Some m) old new builders n o s =
    sound-to (with_entry old (claim_of o.by o.key)) new (sound-claim old o.key o.by o.out s) o.now

undo-sound : (x : Option UndoRefusal) (n : ℕ) (old new : BookModel)
    (r : Result (Unit {0}) UndoRefusal) → undo_stop old.history.journal n ≡ x
    → UndoAnswer x n old new r → Sound old.history → Sound new.history
undo-sound (Some stop) n old new r is a s = same-book old new s a.1
undo-sound None n old new (Ok u) is a s =
    let c = stop-none old.history.journal n is in
    sound-to (without_entry old.history n) new.history (sound-undone old.history n c.can c.free s)
    a.outcome
undo-sound None n old new (Err undos.NoMemory) is a s = sound-to old.history new.history s a.outcome
undo-sound None n old new (Err (undos.Blocked m)) is a s =
    won-sound (entry_at old.history.journal n) old.history new.history old.fixed.builders m
    a.outcome s
undo-sound None n old new (Err undos.NoSuchEntry) is a s = absurd a.outcome
undo-sound None n old new (Err undos.NotACommand) is a s = absurd a.outcome
undo-sound None n old new (Err undos.AlreadyUndone) is a s = absurd a.outcome

noticed-sound : {tries : List DeskTry} (i b : ℕ) (is : Bool) (old new : BookModel)
    → Noticed i b is tries old new
    → Sound old.history → Sound new.history
noticed-sound i b is old new o s =
    sound-to (noting_one old.history o.key o.by) new.history (sound-one old.history o.key o.by s)
    o.history

start-sound : (b : ℕ) (hand : Hand) (old new : BookModel) (r : Result Job StartRefusal)
    → StartOutcome b hand old new r → Sound old.history → Sound new.history
start-sound b (Holding i) old new (Ok job) o s = noticed-sound i b true old new o.0 s
start-sound b (Holding i) old new (Err starts.Mismatch) o s = noticed-sound i b false old new o s
start-sound b (Holding i) old new (Err starts.NothingHeld) o s = absurd o
start-sound b (Holding i) old new (Err starts.NoMemory) o s = same-book old new s o
start-sound b Free old new r o s = same-book old new s o.1
start-sound b (Finished i c) old new r o s = same-book old new s o.1

finish-sound : (hand : Hand) (o : Outcome) (v u : BuilderView) (old new : BookModel)
    (r : Result ℕ FinishRefusal) → FinishOutcome hand o v u old new r → Sound old.history
    → Sound new.history
finish-sound (Holding i) o v u old new (Ok n) is s =
    let f = is.0 in
    let mid = noting_one old.history f.key f.by in
    sound-to (with_entry mid (record { kind = kinds.Outcome v.number o; keys = f.key ∷ [] }))
    new.history (sound-ended mid f.key v.number o f.built (sound-one old.history f.key f.by s))
    f.history
finish-sound (Holding i) o v u old new (Err finishes.Mismatch) is s =
    noticed-sound i v.number is.0 old new is.2 s
finish-sound (Holding i) o v u old new (Err finishes.NothingHeld) is s = absurd is
finish-sound (Holding i) o v u old new (Err finishes.NoMemory) is s = same-book old new s is.0
finish-sound (Finished i c) o v u old new (Ok n) is s =
    let f = is.0.1 in
    sound-to (with_entry old.history
    (record { kind = kinds.Outcome v.number o; keys = f.key ∷ [] })) new.history
    (sound-ended old.history f.key v.number o f.built s) f.history
finish-sound (Finished i c) o v u old new (Err finishes.Mismatch) is s =
    sound-to old.history new.history s (ap (λ (b : BookModel). b.history) is.0.1.1)
finish-sound (Finished i c) o v u old new (Err finishes.NothingHeld) is s =
    same-book old new s is.0.1
finish-sound (Finished i c) o v u old new (Err finishes.NoMemory) is s = same-book old new s is.0.1
finish-sound Free o v u old new (Ok n) is s = same-book old new s is.1
finish-sound Free o v u old new (Err finishes.Mismatch) is s = same-book old new s is.1
finish-sound Free o v u old new (Err finishes.NothingHeld) is s = same-book old new s is.1
finish-sound Free o v u old new (Err finishes.NoMemory) is s = same-book old new s is.1

entry-sound : (old new : BookModel) (e : Entry)
    → new.history ≡ with_entry old.history e
    → AppliesOn (rows_of old.history) e.kind e.keys → Sound old.history → Sound new.history
entry-sound old new e now applies s =
    sound-to (with_entry old.history e) new.history (sound-entry old.history e s applies) now

does-sound : (call : Call) (old new : BookModel) → Does call old new → Sound old.history
    → Sound new.history
does-sound (command c r) old new d s = command-sound c old new r d s
does-sound (undo n r) old new d s =
    undo-sound (undo_stop old.history.journal n) n old new r refl d s
does-sound (start b hand r) old new d s = start-sound b hand old new r d s
does-sound (finish o v u r) old new d s = finish-sound v.hand o v u old new r d s
does-sound (arrive k (Ok n)) old new d s =
    entry-sound old new (record { kind = kinds.Arrive; keys = k ∷ [] })
    (ap (λ (b : BookModel). b.history) d.3)
    (AppliesOn-one (rows_of old.history) kinds.Arrive k d.0 d.1 d.2) s
does-sound (arrive k (Err arrivals.NoSuchRow)) old new d s = same-book old new s d.1
does-sound (arrive k (Err (arrivals.DoesNotApply why))) old new d s = same-book old new s d.4
does-sound (arrive k (Err arrivals.NoMemory)) old new d s = same-book old new s d.3
does-sound (sweep (Ok None)) old new d s = same-book old new s d.1
does-sound (sweep (Ok (Some n))) old new d s =
    entry-sound old new (record { kind = kinds.Sweep; keys = freed_now old })
    (ap (λ (b : BookModel). b.history) d.1)
    (AppliesOn-freed (supply_now old.fixed.stock old.history) (rows_of old.history)
    (up_now old.history s.up)) s
does-sound (sweep (Err e)) old new d s = same-book old new s d
does-sound (watch groups given (Ok u)) old new d s =
    sound-to old.history new.history s (ap (λ (b : BookModel). b.history) d.1)
does-sound (watch groups given (Err (watches.NoSuchRow k))) old new d s = same-book old new s d.1
does-sound (watch groups given (Err (watches.Twice k))) old new d s = same-book old new s d.1
does-sound (watch groups given (Err (watches.BadGroup k))) old new d s = same-book old new s d.1
does-sound (watch groups given (Err watches.NoMemory)) old new d s = same-book old new s d

-- ---- 3. of lists of calls

pub all-sound : (calls : List Call) (old new : BookModel) → DoAll calls old new → Sound old.history
    → Sound new.history
all-sound [] old new same s = same-book old new s same
all-sound (c ∷ calls) old new d s = all-sound calls d.0 new d.2 (does-sound c old d.0 d.1 s)

pub entries_are_lawful : EntriesAreLawful
entries_are_lawful t fixed calls new up d =
    (all-sound calls (begun (opened t) fixed) new d
    (record { up = up; lawful = tt })).lawful
