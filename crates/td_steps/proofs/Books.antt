-- Over any list of calls the opening rows and the entries stay; a command is undone at once.
use Rattle.std.proofs.Common.{◌≡◌, ℕ, ◌-◌, Bool, true, false, ◌&&◌}
use Rattle.std.proofs.Common.{List, [], ◌∷◌, ◌++◌, append_assoc, append-nil, filter, map, Option}
use Rattle.std.proofs.Common.{Some, None, Result, Ok, Err, if◌then◌else◌, ap}
use Rattle.std.proofs.Common.{refl, sym, subst, ◌∙◌}
use Rattle.std.specs.Prelude.{IsSomeAnd, OnOk}
use Rattle.std.specs.List.{list_any}
use Rattle.std.proofs.lemmas.Bool.{or_parts}
use Rattle.td_board.specs.declared.views.Hand.{Hand}
use Rattle.td_board.specs.declared.views.Hand.TheVariants.{Free, Holding, Finished}
use Rattle.td_board.specs.declared.views.BuilderView.{BuilderView}
use Rattle.td_board.specs.declared.views.DeskTry.{DeskTry}
use Rattle.td_rows.specs.declared.key.Key.{Key}
use Rattle.td_rows.specs.declared.kind.Kind.TheVariants as kinds
use Rattle.td_rows.specs.declared.outcome.Outcome.{Outcome}
use Rattle.td_rows.specs.Table.{Table}
use Rattle.td_wbread.specs.Command.{CommandParts}
use Rattle.td_journal.specs.declared.entry.Entry.{Entry}
use Rattle.td_journal.specs.declared.entry.Mark.TheVariants.{Standing}
use Rattle.td_journal.specs.declared.entry.Mark.{Mark}
use Rattle.td_journal.specs.declared.entry.Marked.{Marked}
use Rattle.td_journal.specs.Entries.{is_command, standing, standing_entry, entry_at}
use Rattle.td_journal.specs.Replay.{replay}
use Rattle.td_journal.specs.Touching.{blocker}
use Rattle.td_journal.proofs.LastEntry.{entry_at-last, blocker-last, standing-last}
use Rattle.td_core.specs.Committing.{takes}
use Rattle.td_core.specs.History.{History, rows_of, with_entry, without_entry, opened}
use Rattle.td_core.proofs.Staying.{entries-append, entries-undone_at}
use Rattle.td_book.specs.declared.arriving.ArriveRefusal.TheVariants as arrivals
use Rattle.td_book.specs.declared.commanding.CommandRefusal.{CommandRefusal}
use Rattle.td_book.specs.declared.commanding.CommandRefusal.TheVariants as commands
use Rattle.td_book.specs.declared.commanding.Taken.{Taken}
use Rattle.td_book.specs.declared.finishing.FinishRefusal.{FinishRefusal}
use Rattle.td_book.specs.declared.finishing.FinishRefusal.TheVariants as finishes
use Rattle.td_book.specs.declared.starting.Job.{Job}
use Rattle.td_book.specs.declared.starting.StartRefusal.{StartRefusal}
use Rattle.td_book.specs.declared.starting.StartRefusal.TheVariants as starts
use Rattle.td_book.specs.declared.undoing.UndoRefusal.{UndoRefusal}
use Rattle.td_book.specs.declared.undoing.UndoRefusal.TheVariants as undos
use Rattle.td_book.specs.declared.watching.WatchRefusal.{WatchRefusal}
use Rattle.td_book.specs.declared.watching.WatchRefusal.TheVariants as watches
use Rattle.td_book.specs.Arriving.{freed_now}
use Rattle.td_book.specs.Building.{StartOutcome, Noticed}
use Rattle.td_book.specs.Calls.{is_lost, noting_one, noting, off_for}
use Rattle.td_book.specs.Commands.{named_by, is_matched_in, IsDone}
use Rattle.td_book.specs.Desk.{Fixed, BookModel, claim_of}
use Rattle.td_book.specs.Finishing.{FinishOutcome}
use Rattle.td_wbread.specs.Kinds.{kind_of}
use Rattle.td_book.specs.Undoing.{undo_stop, mark_stop, UndoAnswer, IsWon}
use Rattle.td_book.specs.WatchCalls.{WatchOutcome}
use Rattle.td_book.specs.Watching.{WatchView, watch_of}
use Rattle.td_book.proofs.Calls.{kinds_command}
use Rattle.td_core.specs.Refusals.{is_queued_at}
use Rattle.td_steps.specs.Commands.{off_in}
use Rattle.td_steps.specs.Books.{Call, command, undo, start, finish, arrive, sweep, watch, is_watch}
use Rattle.td_steps.specs.Books.{Does, entries_in, Follows, EntriesStay, WatchedStay}
use Rattle.td_steps.specs.Books.{RowsAreReplayed, IsBack, UndoneAtOnce, BlockedExactly, UndoneElse}
use Rattle.td_steps.specs.Openings.{begun}

-- ---- 1. of histories

record Grows (old new : History) : Type 0 where
  opening : new.opening ≡ old.opening
  added : List Entry
  entries : map (λ (m : Marked). m.entry) new.journal
      ≡ map (λ (m : Marked). m.entry) old.journal ++ added

grows-none : (h new : History) → new ≡ h → Grows h new
grows-none h new same =
    record {
      opening = ap (λ (x : History). x.opening) same;
      added = [];
      entries = ap (λ (x : History). map (λ (m : Marked). m.entry) x.journal) same
          ∙ sym (append-nil (map (λ (m : Marked). m.entry) h.journal));
    }

grows-entry : (h : History) (e : Entry) → Grows h (with_entry h e)
grows-entry h e =
    record {
      opening = refl;
      added = e ∷ [];
      entries = entries-append h.journal (standing_entry e ∷ []);
    }

grows-undone : (h : History) (n : ℕ) → Grows h (without_entry h n)
grows-undone h n =
    record {
      opening = refl;
      added = [];
      entries = entries-undone_at h.journal (n - 1)
          ∙ sym (append-nil (map (λ (m : Marked). m.entry) h.journal));
    }

grows-then : (a b c : History) → Grows a b → Grows b c → Grows a c
grows-then a b c one two = record {
  opening = two.opening ∙ one.opening;
  added = one.added ++ two.added;
  entries = two.entries ∙ ap (λ (es : List Entry). es ++ two.added) one.entries
      ∙ append_assoc (map (λ (m : Marked). m.entry) a.journal) one.added two.added;
}

grows-to : (h a b : History) → Grows h a → b ≡ a → Grows h b
grows-to h a b g same = subst (Grows h) (sym same) g

grows-one : (h : History) (k : Key) (b : ℕ) → Grows h (noting_one h k b)
grows-one h k b =
    elim (is_queued_at (rows_of h) k && is_lost b) as (λ v.
    Grows h (if v then with_entry h (claim_of b k) else h)) [
      | true ↦ grows-entry h (claim_of b k)
      | false ↦ grows-none h h refl
    ]

grows-noting : (h : History) (ks : List Key) (bs : List ℕ) → Grows h (noting h ks bs)
grows-noting h [] bs = grows-none h h refl
grows-noting h (k ∷ ks) [] = grows-none h h refl
grows-noting h (k ∷ ks) (b ∷ bs) =
    grows-then h (noting_one h k b) (noting (noting_one h k b) ks bs) (grows-one h k b)
    (grows-noting (noting_one h k b) ks bs)

-- ---- 2. of each call

-- what a call leaves that is no watch
record Keeps (old new : BookModel) : Type 0 where
  opening : new.history.opening ≡ old.history.opening
  fixed : new.fixed ≡ old.fixed
  added : List Entry
  entries : entries_in new ≡ entries_in old ++ added

keeps : (old new : BookModel) → Grows old.history new.history → new.fixed ≡ old.fixed
    → Keeps old new
keeps old new g fixed =
    record { opening = g.opening; fixed = fixed; added = g.added; entries = g.entries }

stays : (old new : BookModel) → new ≡ old → Keeps old new
stays old new same =
    keeps old new (grows-none old.history new.history (ap (λ (b : BookModel). b.history) same))
    (ap (λ (b : BookModel). b.fixed) same)

command-keeps : (c : CommandParts) (old new : BookModel) (r : Result Taken CommandRefusal)
    → IsDone c old new r → Keeps old new
command-keeps c old new (Err commands.NoMemory) is =
    keeps old new (grows-none old.history new.history is.outcome) is.fixed
command-keeps c old new (Err (commands.NothingApplies s)) is =
    let now = noting old.history (off_in c old) is.outcome.0 in
    keeps old new (grows-to old.history now new.history
    (grows-noting old.history (off_in c old) is.outcome.0) is.outcome.2.1) is.fixed
command-keeps c old new (Ok taken) is =
    let now = noting old.history (off_in c old) is.outcome.0 in
    let e : Entry = record {
      kind = kind_of c;
      keys = takes (rows_of now) (kind_of c) (filter (is_matched_in c old) (named_by c old));
    } in
    keeps old new (grows-to old.history (with_entry now e) new.history
    (grows-then old.history now (with_entry now e)
    (grows-noting old.history (off_in c old) is.outcome.0) (grows-entry now e)) is.outcome.2.1)
    is.fixed

won-grows : (x : Option Marked) (old new : History) (builders n : ℕ)
    → IsSomeAnd x (λ (e : Marked). IsWon old new builders (off_for e.entry.kind e.entry.keys) n)
    → Grows old new
won-grows None old new builders n o = absurd o
won-grows (Some m) old new builders n o =
    grows-to old (with_entry old (claim_of o.by o.key)) new (grows-entry old (claim_of o.by o.key))
    o.now

undo-keeps : (x : Option UndoRefusal) (n : ℕ) (old new : BookModel)
    (r : Result (Unit {0}) UndoRefusal) → UndoAnswer x n old new r → Keeps old new
undo-keeps (Some s) n old new r a = stays old new a.1
undo-keeps None n old new (Ok u) a =
    keeps old new (grows-to old.history (without_entry old.history n) new.history
    (grows-undone old.history n) a.outcome) a.fixed
undo-keeps None n old new (Err undos.NoMemory) a =
    keeps old new (grows-none old.history new.history a.outcome) a.fixed
undo-keeps None n old new (Err (undos.Blocked m)) a =
    keeps old new (won-grows (entry_at old.history.journal n) old.history new.history
    old.fixed.builders m a.outcome) a.fixed
undo-keeps None n old new (Err undos.NoSuchEntry) a = absurd a.outcome
undo-keeps None n old new (Err undos.NotACommand) a = absurd a.outcome
undo-keeps None n old new (Err undos.AlreadyUndone) a = absurd a.outcome

noticed-keeps : {tries : List DeskTry} (i b : ℕ) (is : Bool) (old new : BookModel)
    → Noticed i b is tries old new → Keeps old new
noticed-keeps i b is old new o =
    keeps old new (grows-to old.history (noting_one old.history o.key o.by) new.history
    (grows-one old.history o.key o.by) o.history) o.fixed

start-keeps : (b : ℕ) (hand : Hand) (old new : BookModel) (r : Result Job StartRefusal)
    → StartOutcome b hand old new r → Keeps old new
start-keeps b (Holding i) old new (Ok job) o = noticed-keeps i b true old new o.0
start-keeps b (Holding i) old new (Err starts.Mismatch) o = noticed-keeps i b false old new o
start-keeps b (Holding i) old new (Err starts.NothingHeld) o = absurd o
start-keeps b (Holding i) old new (Err starts.NoMemory) o = stays old new o
start-keeps b Free old new r o = stays old new o.1
start-keeps b (Finished i c) old new r o = stays old new o.1

finish-keeps : (hand : Hand) (o : Outcome) (v u : BuilderView) (old new : BookModel)
    (r : Result ℕ FinishRefusal) → FinishOutcome hand o v u old new r → Keeps old new
finish-keeps (Holding i) o v u old new (Ok n) is =
    let f = is.0 in
    let mid = noting_one old.history f.key f.by in
    let e : Entry = record { kind = kinds.Outcome v.number o; keys = f.key ∷ [] } in
    keeps old new (grows-to old.history (with_entry mid e) new.history
    (grows-then old.history mid (with_entry mid e) (grows-one old.history f.key f.by)
    (grows-entry mid e)) f.history) f.fixed
finish-keeps (Holding i) o v u old new (Err finishes.Mismatch) is =
    noticed-keeps i v.number is.0 old new is.2
finish-keeps (Holding i) o v u old new (Err finishes.NothingHeld) is = absurd is
finish-keeps (Holding i) o v u old new (Err finishes.NoMemory) is = stays old new is.0
finish-keeps (Finished i c) o v u old new (Ok n) is =
    let s = is.0.1 in
    let e : Entry = record { kind = kinds.Outcome v.number o; keys = s.key ∷ [] } in
    keeps old new (grows-to old.history (with_entry old.history e) new.history
    (grows-entry old.history e) s.history) s.fixed
finish-keeps (Finished i c) o v u old new (Err finishes.Mismatch) is =
    keeps old new
    (grows-none old.history new.history (ap (λ (b : BookModel). b.history) is.0.1.1))
    (ap (λ (b : BookModel). b.fixed) is.0.1.1)
finish-keeps (Finished i c) o v u old new (Err finishes.NothingHeld) is = stays old new is.0.1
finish-keeps (Finished i c) o v u old new (Err finishes.NoMemory) is = stays old new is.0.1
finish-keeps Free o v u old new (Ok n) is = stays old new is.1
finish-keeps Free o v u old new (Err finishes.Mismatch) is = stays old new is.1
finish-keeps Free o v u old new (Err finishes.NothingHeld) is = stays old new is.1
finish-keeps Free o v u old new (Err finishes.NoMemory) is = stays old new is.1

entered-keeps : (old new : BookModel) (e : Entry)
    → new.history ≡ with_entry old.history e → new.fixed ≡ old.fixed → Keeps old new
entered-keeps old new e now fixed =
    keeps old new (grows-to old.history (with_entry old.history e) new.history
    (grows-entry old.history e) now) fixed

does-keep : (call : Call) (old new : BookModel) → is_watch call ≡ false → Does call old new
    → Keeps old new
does-keep (command c r) old new other d = command-keeps c old new r d
does-keep (undo n r) old new other d = undo-keeps (undo_stop old.history.journal n) n old new r d
does-keep (start b hand r) old new other d = start-keeps b hand old new r d
does-keep (finish o v u r) old new other d = finish-keeps v.hand o v u old new r d
does-keep (arrive k (Ok n)) old new other d =
    entered-keeps old new (record { kind = kinds.Arrive; keys = k ∷ [] })
    (ap (λ (b : BookModel). b.history) d.3) (ap (λ (b : BookModel). b.fixed) d.3)
does-keep (arrive k (Err arrivals.NoSuchRow)) old new other d = stays old new d.1
does-keep (arrive k (Err (arrivals.DoesNotApply s))) old new other d = stays old new d.4
does-keep (arrive k (Err arrivals.NoMemory)) old new other d = stays old new d.3
does-keep (sweep (Ok None)) old new other d = stays old new d.1
does-keep (sweep (Ok (Some n))) old new other d =
    entered-keeps old new (record { kind = kinds.Sweep; keys = freed_now old })
    (ap (λ (b : BookModel). b.history) d.1) (ap (λ (b : BookModel). b.fixed) d.1)
does-keep (sweep (Err e)) old new other d = stays old new d
does-keep (watch groups given r) old new other d = absurd (cc)

still_fixed : (a b : Fixed) (w : WatchView) → b ≡ record a { watch = w }
    → b ≡ record a { watch = b.watch }
still_fixed a b w same = subst (λ (x : Fixed). x ≡ record a { watch = x.watch }) (sym same) refl

kept-follows : (old new : BookModel) → Keeps old new → Follows old new
kept-follows old new k =
    record {
      opening = k.opening;
      fixed = still_fixed old.fixed new.fixed old.fixed.watch k.fixed;
      added = k.added;
      entries = k.entries;
    }

watch-follows : (groups : ℕ) (given : List (Key × ℕ)) (old new : BookModel)
    (r : Result (Unit {0}) WatchRefusal) → WatchOutcome groups given old new r → Follows old new
watch-follows groups given old new (Ok u) d = record {
  opening = ap (λ (b : BookModel). b.history.opening) d.1;
  fixed = still_fixed old.fixed new.fixed (watch_of old.history.opening groups given)
      (ap (λ (b : BookModel). b.fixed) d.1);
  added = [];
  entries = ap entries_in d.1 ∙ sym (append-nil (entries_in old));
}
watch-follows groups given old new (Err (watches.NoSuchRow k)) d =
    kept-follows old new (stays old new d.1)
watch-follows groups given old new (Err (watches.Twice k)) d =
    kept-follows old new (stays old new d.1)
watch-follows groups given old new (Err (watches.BadGroup k)) d =
    kept-follows old new (stays old new d.1)
watch-follows groups given old new (Err watches.NoMemory) d = kept-follows old new (stays old new d)

does-follow : (call : Call) (old new : BookModel) → Does call old new → Follows old new
does-follow (command c r) old new d = kept-follows old new (does-keep (command c r) old new refl d)
does-follow (undo n r) old new d = kept-follows old new (does-keep (undo n r) old new refl d)
does-follow (start b hand r) old new d =
    kept-follows old new (does-keep (start b hand r) old new refl d)
does-follow (finish o v u r) old new d =
    kept-follows old new (does-keep (finish o v u r) old new refl d)
does-follow (arrive k r) old new d = kept-follows old new (does-keep (arrive k r) old new refl d)
does-follow (sweep r) old new d = kept-follows old new (does-keep (sweep r) old new refl d)
does-follow (watch groups given r) old new d = watch-follows groups given old new r d

-- ---- 3. of lists of calls

pub entries_stay : EntriesStay
entries_stay [] old new same = kept-follows old new (stays old new same)
entries_stay (c ∷ calls) old new d =
    let one = does-follow c old d.0 d.1 in
    let rest = entries_stay calls d.0 new d.2 in
    let g = grows-then old.history d.0.history new.history
    (record { opening = one.opening; added = one.added; entries = one.entries })
    (record { opening = rest.opening; added = rest.added; entries = rest.entries }) in
    record {
      opening = g.opening;
      fixed = rest.fixed ∙ ap (λ (x : Fixed). record x { watch = new.fixed.watch }) one.fixed;
      added = g.added;
      entries = g.entries;
    }

pub watched_stay : WatchedStay
watched_stay [] old new none same = ap (λ (b : BookModel). b.fixed) same
watched_stay (c ∷ calls) old new none d =
    let both = or_parts (is_watch c) (list_any is_watch calls) none in
    watched_stay calls d.0 new both.1 d.2 ∙ (does-keep c old d.0 both.0 d.1).fixed

pub rows_are_replayed : RowsAreReplayed
rows_are_replayed t fixed calls new d =
    ap (λ (o : Table). replay o (standing new.history.journal))
    (entries_stay calls (begun (opened t) fixed) new d).opening

-- ---- 4. undos

abbrev stop_of : Option Marked → Option ℕ → Option UndoRefusal
stop_of x o =
    elim x as (λ _. Option UndoRefusal) [
      | Some m ↦
          if is_command m.entry.kind then mark_stop m.mark o else Some undos.NotACommand
      | None ↦ Some undos.NoSuchEntry
    ]

stop-is : (ms : List Marked) (n : ℕ) (m : Marked) → entry_at ms n ≡ Some m → m.mark ≡ Standing
    → is_command m.entry.kind ≡ true → undo_stop ms n ≡ mark_stop Standing (blocker ms n)
stop-is ms n m there stands is =
    ap (λ (x : Option Marked). stop_of x (blocker ms n)) there
    ∙ ap (λ b. if b then mark_stop m.mark (blocker ms n) else Some undos.NotACommand) is
    ∙ ap (λ (k : Mark). mark_stop k (blocker ms n)) stands

pub blocked_exactly : BlockedExactly
blocked_exactly n m old new result can is d =
    let stop = stop-is old.history.journal n can.marked can.there can.stands can.command
    ∙ ap (mark_stop Standing) is in
    subst (λ (x : Option UndoRefusal). UndoAnswer x n old new result) stop d

pub undone_else : UndoneElse
undone_else n old new result can free d =
    let stop = stop-is old.history.journal n can.marked can.there can.stands can.command
    ∙ ap (mark_stop Standing) free in
    (subst (λ (x : Option UndoRefusal). UndoAnswer x n old new result) stop d).outcome

module _ (c : CommandParts) (old between new : BookModel) (taken : Taken)
    (is : IsDone c old between (Ok taken)) where
  abbrev now : History
  now = noting old.history (off_in c old) is.outcome.0

  abbrev made : Entry
  made =
      record {
        kind = kind_of c;
        keys = takes (rows_of (noting old.history (off_in c old) is.outcome.0)) (kind_of c)
            (filter (is_matched_in c old) (named_by c old));
      }

  there : entry_at between.history.journal taken.number ≡ Some (standing_entry made)
  there =
      (λ j. entry_at (is.outcome.2.1 j).journal (is.outcome.2.2 j))
      ∙ entry_at-last now.journal (standing_entry made)

  free : blocker between.history.journal taken.number ≡ None
  free =
      (λ j. blocker (is.outcome.2.1 j).journal (is.outcome.2.2 j))
      ∙ blocker-last now.journal (standing_entry made)

  stop : undo_stop between.history.journal taken.number ≡ None
  stop =
      stop-is between.history.journal taken.number (standing_entry made) there refl
      (kinds_command c) ∙ ap (mark_stop Standing) free

  undone_now : (r : Result (Unit {0}) UndoRefusal) → UndoAnswer None taken.number between new r
      → OnOk r (IsBack c old between new)
  undone_now (Ok u) a = record {
    choices = is.outcome.0;
    chosen = is.outcome.1;
    entry = made;
    stood = is.outcome.2.1;
    rows = ap rows_of a.outcome
        ∙ (λ j. rows_of (without_entry (is.outcome.2.1 j) (is.outcome.2.2 j)))
        ∙ ap (replay now.opening) (standing-last now.journal (standing_entry made));
  }
  undone_now (Err r) a = tt

  at_once : (result : Result (Unit {0}) UndoRefusal)
      → UndoAnswer (undo_stop between.history.journal taken.number) taken.number between new result
      → (undo_stop between.history.journal taken.number ≡ None)
      × OnOk result (IsBack c old between new)
  at_once result d = (
    stop,
    undone_now result
        (subst (λ (x : Option UndoRefusal). UndoAnswer x taken.number between new result) stop d),
  )

pub undone_at_once : UndoneAtOnce
undone_at_once c old between new taken result is d = at_once c old between new taken is result d
