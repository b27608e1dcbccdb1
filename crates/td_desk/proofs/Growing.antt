-- What each call of a book does to its changes.
use Rattle.std.proofs.Common.{◌≡◌, ℕ, ◌+◌, ◌≤◌, Bool, true, false, List, [], ◌∷◌, ◌++◌, length}
use Rattle.std.proofs.Common.{length-append, refl, sym, ap, ◌∙◌, subst, arith, Option, Some, None}
use Rattle.std.proofs.Common.{Result, Ok, Err, if◌then◌else◌}
use Rattle.std.specs.Prelude.{IsPermutation, IsSomeAnd}
use Rattle.td_board.specs.declared.outcome.OutcomeCode.{OutcomeCode}
use Rattle.td_board.specs.declared.views.BuilderView.{BuilderView}
use Rattle.td_board.specs.declared.views.DeskTry.{DeskTry}
use Rattle.td_board.specs.declared.views.Hand.{Hand}
use Rattle.td_board.specs.declared.views.Hand.TheVariants.{Free, Holding, Finished}
use Rattle.td_rows.specs.declared.key.Key.{Key}
use Rattle.td_rows.specs.declared.kind.Kind.TheVariants as kinds
use Rattle.td_rows.specs.declared.outcome.Outcome.{Outcome}
use Rattle.td_journal.specs.declared.entry.Entry.{Entry}
use Rattle.td_journal.specs.declared.entry.Mark.{Mark}
use Rattle.td_journal.specs.declared.entry.Mark.TheVariants.{Standing, Undone}
use Rattle.td_journal.specs.declared.entry.Marked.{Marked}
use Rattle.td_journal.specs.Entries.{entry_at, standing_entry, undone, CanBeUndone}
use Rattle.td_journal.specs.Commands.{is_command}
use Rattle.td_journal.specs.Touching.{blocker}
use Rattle.td_core.specs.History.{History}
use Rattle.std.specs.declared.alloc.AllocError.{AllocError}
use Rattle.td_book.specs.declared.arriving.ArriveRefusal.{ArriveRefusal}
use Rattle.td_book.specs.declared.arriving.ArriveRefusal.TheVariants as arrivals
use Rattle.td_book.specs.declared.finishing.FinishRefusal.{FinishRefusal}
use Rattle.td_book.specs.declared.finishing.FinishRefusal.TheVariants as finishes
use Rattle.td_book.specs.declared.starting.Job.{Job}
use Rattle.td_book.specs.declared.starting.StartRefusal.{StartRefusal}
use Rattle.td_book.specs.declared.starting.StartRefusal.TheVariants as starts
use Rattle.td_book.specs.declared.undoing.UndoRefusal.{UndoRefusal}
use Rattle.td_book.specs.declared.undoing.UndoRefusal.TheVariants as undos
use Rattle.td_book.specs.Arriving.{ArriveOutcome, SweepOutcome, freed_now}
use Rattle.td_book.specs.Building.{StartOutcome, Noticed}
use Rattle.td_book.specs.Calls.{off_for, noting_one}
use Rattle.td_book.specs.Desk.{BookModel, claim_of}
use Rattle.td_book.specs.Seen.{is_desks}
use Rattle.td_desk.specs.Receipts.{made_of}
use Rattle.td_book.specs.Finishing.{FinishHeld, FinishAgain, FinishOutcome}
use Rattle.td_book.specs.Undoing.{UndoAnswer, IsWon, undo_stop, mark_stop}
use Rattle.td_book.proofs.Fixed.{arrive_fixed, sweep_fixed}
use Rattle.td_desk.specs.declared.receipt.Receipt.{Receipt}
use Rattle.td_desk.specs.declared.receipt.Receipt.TheVariants.{Made, Swept, Undid}
use Rattle.td_desk.specs.Changes.{changes, changes_from, still_undone}
use Rattle.td_desk.proofs.Counting.{Notes, notes_none, notes_entry, notes_more, notes_one}
use Rattle.td_desk.proofs.Counting.{changes_noted, still_noted, long_noted, changes_entry}
use Rattle.td_desk.proofs.Counting.{still_entry, changes_undid, still_undid, long_undid}
use Rattle.td_desk.proofs.GoingOn.{Extends, extends-append, extends-twice, extends-undone}

-- the book has as many changes as before: at most claims and outcomes came
pub record Kept (os : List Mark) (old new : BookModel) (most : ℕ) : Type 0 where
  pub fixed : new.fixed ≡ old.fixed
  pub still : still_undone new.history.journal os ≡ true
  pub long : length new.history.journal ≤ length old.history.journal + most
  pub on : Extends old.history.journal new.history.journal
  pub same : changes os new ≡ changes os old

-- the book has one change more than before
pub record Grown (os : List Mark) (r : Receipt) (old new : BookModel) (most : ℕ) : Type 0 where
  pub fixed : new.fixed ≡ old.fixed
  pub still : still_undone new.history.journal os ≡ true
  pub long : length new.history.journal ≤ length old.history.journal + most
  pub on : Extends old.history.journal new.history.journal
  pub one : IsPermutation (r ∷ changes os old) (changes os new)

pub kept : (os : List Mark) (old new : BookModel) (most : ℕ)
    → still_undone old.history.journal os ≡ true → new.fixed ≡ old.fixed
    → Notes old.history.journal new.history.journal most → Kept os old new most
kept os old new most still fixed notes = record {
  fixed = fixed;
  still = still_noted os old.history.journal new.history.journal most still notes;
  long = long_noted old.history.journal new.history.journal most notes;
  on = extends-append old.history.journal new.history.journal notes.more notes.at;
  same = changes_noted os old.history.journal new.history.journal most still notes;
}

pub unchanged : (os : List Mark) (old new : BookModel) (most : ℕ)
    → still_undone old.history.journal os ≡ true → new ≡ old → Kept os old new most
unchanged os old new most still same =
    kept os old new most still (ap (λ (b : BookModel). b.fixed) same)
    (notes_none old.history.journal new.history.journal most
    (ap (λ (b : BookModel). b.history.journal) same))

-- claims, and then a clerk's entry
pub grown : (os : List Mark) (old new : BookModel) (mid : List Marked) (e : Entry) (n most : ℕ)
    → still_undone old.history.journal os ≡ true → new.fixed ≡ old.fixed
    → Notes old.history.journal mid most
    → is_desks e.kind ≡ true → new.history.journal ≡ mid ++ standing_entry e ∷ []
    → n ≡ length mid + 1 → Grown os (made_of n e.kind e.keys) old new (most + 1)
grown os old new mid e n most still fixed notes own at num =
    let before = changes_noted os old.history.journal mid most still notes in
    let still' = still_noted os old.history.journal mid most still notes in
    record {
      fixed = fixed;
      still = still_entry os mid new.history.journal e still' at;
      long = let x = long_noted old.history.journal mid most notes in
          omega (arith, x, ap length at, length-append mid (standing_entry e ∷ []));
      on = extends-twice old.history.journal mid new.history.journal
          (extends-append old.history.journal mid notes.more notes.at)
          (extends-append mid new.history.journal (standing_entry e ∷ []) at);
      one = subst (λ l. IsPermutation (made_of n e.kind e.keys ∷ l) (changes os new)) before
          (changes_entry os mid new.history.journal e n still' own at num);
    }

-- ---- 1. arrivals and sweeps

pub arrive_grown : (os : List Mark) (k : Key) (n : ℕ) (old new : BookModel)
    → still_undone old.history.journal os ≡ true → ArriveOutcome k old new (Ok n)
    → Grown os (Made n kinds.Arrive (k ∷ [])) old new 1
arrive_grown os k n old new still is =
    grown os old new old.history.journal (record { kind = kinds.Arrive; keys = k ∷ [] }) n 0 still
    (arrive_fixed k old new (Ok n) is) (notes_none old.history.journal old.history.journal 0 refl)
    refl
    (ap (λ (b : BookModel). b.history.journal) is.3) is.4

pub arrive_kept : (os : List Mark) (k : Key) (e : ArriveRefusal) (old new : BookModel)
    → still_undone old.history.journal os ≡ true → ArriveOutcome k old new (Err e)
    → Kept os old new 1
arrive_kept os k arrivals.NoSuchRow old new still is = unchanged os old new 1 still is.1
arrive_kept os k (arrivals.DoesNotApply s) old new still is = unchanged os old new 1 still is.4
arrive_kept os k arrivals.NoMemory old new still is = unchanged os old new 1 still is.3

pub sweep_grown : (os : List Mark) (n : ℕ) (old new : BookModel)
    → still_undone old.history.journal os ≡ true → SweepOutcome old new (Ok (Some n))
    → Grown os (Swept n) old new 1
sweep_grown os n old new still is =
    grown os old new old.history.journal (record { kind = kinds.Sweep; keys = freed_now old }) n 0
    still (sweep_fixed old new (Ok (Some n)) is)
    (notes_none old.history.journal old.history.journal 0 refl) refl
    (ap (λ (b : BookModel). b.history.journal) is.1) is.2

pub sweep_none : (os : List Mark) (old new : BookModel) → still_undone old.history.journal os ≡ true
    → SweepOutcome old new (Ok None) → Kept os old new 1
sweep_none os old new still is = unchanged os old new 1 still is.1

pub sweep_kept : (os : List Mark) (e : AllocError) (old new : BookModel)
    → still_undone old.history.journal os ≡ true → SweepOutcome old new (Err e) → Kept os old new 1
sweep_kept os e old new still is = unchanged os old new 1 still is

-- ---- 2. builders

noticed : {tries : List DeskTry} (os : List Mark) (i b : ℕ) (is : Bool) (old new : BookModel)
    → still_undone old.history.journal os ≡ true → Noticed i b is tries old new → Kept os old new 1
noticed os i b is old new still seen =
    kept os old new 1 still seen.fixed
    (subst (λ (h : History). Notes old.history.journal h.journal 1) (sym seen.history)
    (notes_one old.history seen.key seen.by))

pub start_kept : (os : List Mark) (b : ℕ) (hand : Hand) (old new : BookModel)
    (r : Result Job StartRefusal) → still_undone old.history.journal os ≡ true
    → StartOutcome b hand old new r → Kept os old new 1
start_kept os b (Holding i) old new (Ok job) still is = noticed os i b true old new still is.0
start_kept os b (Holding i) old new (Err starts.Mismatch) still is =
    noticed os i b false old new still is
start_kept os b (Holding i) old new (Err starts.NothingHeld) still is = absurd is
start_kept os b (Holding i) old new (Err starts.NoMemory) still is = unchanged os old new 1 still is
start_kept os b Free old new r still is = unchanged os old new 1 still is.1
start_kept os b (Finished i c) old new r still is = unchanged os old new 1 still is.1

more_room : (os : List Mark) (old new : BookModel) → Kept os old new 1 → Kept os old new 2
more_room os old new k =
    record {
      fixed = k.fixed;
      still = k.still;
      long = let x = k.long in omega arith;
      on = k.on;
      same = k.same;
    }

held_kept : (os : List Mark) (i : ℕ) (o : Outcome) (v w : BuilderView) (old new : BookModel)
    (r : Result ℕ FinishRefusal) → still_undone old.history.journal os ≡ true
    → FinishHeld i o v w old new r → Kept os old new 2
held_kept os i o v w old new (Ok n) still is =
    let f = is.0 in
    let h = noting_one old.history f.key f.by in
    let e : Entry = record { kind = kinds.Outcome v.number o; keys = f.key ∷ [] } in
    kept os old new 2 still f.fixed
    (notes_more old.history.journal h.journal new.history.journal 1 1
    (notes_one old.history f.key f.by)
    (notes_entry h.journal new.history.journal e refl (ap (λ (x : History). x.journal) f.history)))
held_kept os i o v w old new (Err finishes.NoMemory) still is = unchanged os old new 2 still is.0
held_kept os i o v w old new (Err finishes.Mismatch) still (is, behind, seen, hand) =
    more_room os old new (noticed os i v.number is old new still seen)
held_kept os i o v w old new (Err finishes.NothingHeld) still is = absurd is

again_kept : (os : List Mark) (i : ℕ) (c : OutcomeCode) (o : Outcome) (b : ℕ) (old new : BookModel)
    (r : Result ℕ FinishRefusal) → still_undone old.history.journal os ≡ true
    → FinishAgain i c o b old new r → Kept os old new 2
again_kept os i c o b old new (Ok n) still is =
    let s = is.1 in
    let e : Entry = record { kind = kinds.Outcome b o; keys = s.key ∷ [] } in
    more_room os old new (kept os old new 1 still s.fixed
    (notes_entry old.history.journal new.history.journal e refl
    (ap (λ (x : History). x.journal) s.history)))
again_kept os i c o b old new (Err finishes.NothingHeld) still is =
    unchanged os old new 2 still is.1
again_kept os i c o b old new (Err finishes.NoMemory) still is = unchanged os old new 2 still is.1
again_kept os i c o b old new (Err finishes.Mismatch) still is =
    kept os old new 2 still (ap (λ (x : BookModel). x.fixed) is.1.1)
    (notes_none old.history.journal new.history.journal 2
    (ap (λ (x : BookModel). x.history.journal) is.1.1))

pub finish_kept : (os : List Mark) (hand : Hand) (o : Outcome) (v w : BuilderView)
    (old new : BookModel) (r : Result ℕ FinishRefusal) → still_undone old.history.journal os ≡ true
    → FinishOutcome hand o v w old new r → Kept os old new 2
finish_kept os Free o v w old new r still is = unchanged os old new 2 still is.1
finish_kept os (Holding i) o v w old new r still is = held_kept os i o v w old new r still is
finish_kept os (Finished i c) o v w old new r still is =
    again_kept os i c o v.number old new r still is.0

-- ---- 3. undos

mark_free : (m : Mark) (b : Option ℕ) → mark_stop m b ≡ None → m ≡ Standing
mark_free Standing b h = refl
mark_free Undone b h = absurd (cc)

abbrev stop_of : List Marked → ℕ → Option Marked → Option UndoRefusal
stop_of ms n None = Some undos.NoSuchEntry
stop_of ms n (Some m) =
    if is_command m.entry.kind then mark_stop m.mark (blocker ms n) else Some undos.NotACommand

can_be : (ms : List Marked) (n : ℕ) (found : Option Marked) → entry_at ms n ≡ found
    → stop_of ms n found ≡ None → CanBeUndone ms n
can_be ms n None at h = absurd (cc)
can_be ms n (Some m) at h = with_kind (is_command m.entry.kind) refl h
  where
    with_kind : (b : Bool) → is_command m.entry.kind ≡ b
        → (if b then mark_stop m.mark (blocker ms n) else Some undos.NotACommand) ≡ None
        → CanBeUndone ms n
    with_kind true is g =
        record { marked = m; there = at; stands = mark_free m.mark (blocker ms n) g; command = is }
    with_kind false is g = absurd (cc)

free_undo : (os : List Mark) (stop : Option UndoRefusal) (n : ℕ) (old new : BookModel)
    → undo_stop old.history.journal n ≡ stop → still_undone old.history.journal os ≡ true
    → UndoAnswer stop n old new (Ok tt) → Grown os (Undid n) old new 1
free_undo os (Some r) n old new at still is = absurd (let e = is.0 in cc)
free_undo os None n old new at still is =
    let ms = old.history.journal in
    let can = can_be ms n (entry_at ms n) refl at in
    let now : new.history.journal ≡ undone ms n = ap (λ (h : History). h.journal) is.outcome in
    record {
      fixed = is.fixed;
      still = ap (λ l. still_undone l os) now ∙ still_undid os n ms still;
      long = let e = ap length now in let f = long_undid n ms in omega arith;
      on = extends-undone ms new.history.journal n now;
      one = subst (λ l. IsPermutation (Undid n ∷ changes os old) (changes_from 1 l os)) (sym now)
          (changes_undid os n ms still can);
    }

pub undo_grown : (os : List Mark) (n : ℕ) (old new : BookModel)
    → still_undone old.history.journal os ≡ true
    → UndoAnswer (undo_stop old.history.journal n) n old new (Ok tt) → Grown os (Undid n) old new 1
undo_grown os n old new still is =
    free_undo os (undo_stop old.history.journal n) n old new refl still is

refused_undo : (os : List Mark) (stop : Option UndoRefusal) (n : ℕ) (e : UndoRefusal)
    (old new : BookModel) → still_undone old.history.journal os ≡ true
    → UndoAnswer stop n old new (Err e) → Kept os old new 1
refused_undo os (Some r) n e old new still is = unchanged os old new 1 still is.1
refused_undo os None n undos.NoMemory old new still is =
    kept os old new 1 still is.fixed
    (notes_none old.history.journal new.history.journal 1
    (ap (λ (h : History). h.journal) is.outcome))
refused_undo os None n (undos.Blocked m) old new still is =
    blocked (entry_at old.history.journal n) is.outcome
  where
    blocked : (found : Option Marked)
        → IsSomeAnd found (λ e.
        IsWon old.history new.history old.fixed.builders (off_for e.entry.kind e.entry.keys) m)
        → Kept os old new 1
    blocked None h = absurd h
    blocked (Some x) h =
        kept os old new 1 still is.fixed
        (notes_entry old.history.journal new.history.journal (claim_of h.by h.key) refl
        (ap (λ (y : History). y.journal) h.now))
refused_undo os None n undos.NoSuchEntry old new still is = absurd is.outcome
refused_undo os None n undos.NotACommand old new still is = absurd is.outcome
refused_undo os None n undos.AlreadyUndone old new still is = absurd is.outcome

pub undo_kept : (os : List Mark) (n : ℕ) (e : UndoRefusal) (old new : BookModel)
    → still_undone old.history.journal os ≡ true
    → UndoAnswer (undo_stop old.history.journal n) n old new (Err e) → Kept os old new 1
undo_kept os n e old new still is =
    refused_undo os (undo_stop old.history.journal n) n e old new still is
