-- What the calls of a book answer, as replies.
use Rattle.std.proofs.Common.{◌≡◌, ◌≢◌, ℕ, zero, suc, ◌+◌, ◌≤◌, Bool, true, false, List, []}
use Rattle.std.proofs.Common.{◌∷◌, ◌++◌, length, Some, Ok, refl, sym, ap, subst, ◌∙◌, arith}
use Rattle.std.proofs.Common.{append_assoc, slice_get, if◌then◌else◌, Option, None, Result, Err}
use Rattle.std.proofs.Common.{IfOk, OnOk, OnErr, inl, inr}
use Rattle.std.specs.Prelude.{◌&&◌, codes, IsSomeAnd}
use Rattle.std.proofs.lemmas.List.{append-nil}
use Rattle.std.proofs.lemmas.Result.{IfOk-weaker}
use Rattle.std.specs.Result.{is_ok, result_and}
use Rattle.std.specs.declared.alloc.AllocError.{AllocError}
use Rattle.td_rows.specs.declared.key.Key.{Key}
use Rattle.td_rows.specs.declared.kind.Kind.TheVariants as kinds
use Rattle.td_rows.specs.declared.row.Row.{Row}
use Rattle.td_rows.specs.declared.state.State.{State}
use Rattle.td_rows.specs.RowLine.{row_line}
use Rattle.td_rows.specs.StateWord.{state_word}
use Rattle.td_rows.specs.Table.{row_of}
use Rattle.td_journal.specs.declared.entry.Entry.{Entry}
use Rattle.td_journal.specs.declared.entry.Marked.{Marked}
use Rattle.td_journal.specs.Entries.{entry_at, standing_entry}
use Rattle.td_journal.specs.JournalText.{entry_line}
use Rattle.td_journal.proofs.LastEntry.{entry_at-last}
use Rattle.td_core.specs.History.{History, rows_of, with_entry}
use Rattle.td_core.specs.Refusals.{is_queued_at}
use Rattle.td_book.specs.Desk.{BookModel}
use Rattle.td_book.specs.declared.arriving.ArriveRefusal.{ArriveRefusal}
use Rattle.td_book.specs.declared.arriving.ArriveRefusal.TheVariants as arrivals
use Rattle.td_book.specs.declared.undoing.UndoRefusal.{UndoRefusal}
use Rattle.td_book.specs.declared.undoing.UndoRefusal.TheVariants as undos
use Rattle.td_book.specs.Arriving.{ArriveOutcome, SweepOutcome, freed_now}
use Rattle.td_book.specs.Calls.{noting, noting_one, is_lost, off_for}
use Rattle.td_book.specs.Undoing.{IsWon, UndoAnswer}
use Rattle.td_script.specs.Replies.{Reply, enters, entry_made, arrives, sweeps, undoes, refuses}
use Rattle.td_script.specs.Replies.{ended, refusal_line, says, shows_row, state_refused, undo_name}
use Rattle.td_script.specs.Replying.{IsPut, IsEntryPut, IsArrivalPut, IsFoundPut, IsRowPut}
use Rattle.td_script.specs.Replying.{IsSweepPut, IsUndoPut}
use Rattle.td_script.specs.Answering.{Answers, IsLeftBy}

-- ---- 1. the last entry

-- an entry that was made is found under its number
pub made_is : (h now : History) (e : Entry) (n : ℕ) → now ≡ with_entry h e
    → n ≡ length h.journal + 1 → entry_at now.journal n ≡ Some (standing_entry e)
made_is h now e n is number =
    ap (λ (x : History). entry_at x.journal n) is
    ∙ ap (entry_at (h.journal ++ standing_entry e ∷ [])) number
    ∙ entry_at-last h.journal (standing_entry e)

-- ---- 2. replies

-- what is put, and then whether the line is refused
pub IsPut-and : {E : Type 0} (text before now : List ℕ) (is : Bool) (put : Result (Unit {0}) E)
    (said : Result Bool E) → said ≡ result_and put (Ok is) → OnOk put (now ≡ before ++ text)
    → IfOk said (IsPut text is before now)
IsPut-and text before now is (Ok u) said same it =
    subst (λ r. IfOk r (IsPut text is before now)) (sym same)
    (record { text_is = it; refusal = refl })
IsPut-and text before now is (Err e) said same it =
    subst (λ r. IfOk r (IsPut text is before now)) (sym same) tt

-- the line of an entry is put, if that is found, and the script's line isn't refused
pub IsEntryPut-and : {E : Type 0} (ms : List Marked) (n : ℕ) (before now : List ℕ)
    (put : Result (Unit {0}) E) (said : Result Bool E) → said ≡ result_and put (Ok false)
    → ((m : Marked) → entry_at ms n ≡ Some m
    → OnOk put (now ≡ before ++ entry_made n m.entry.keys))
    → IfOk said (IsEntryPut ms n [] before now)
IsEntryPut-and ms n before now (Ok u) said same it =
    subst (λ r. IfOk r (IsEntryPut ms n [] before now)) (sym same) (λ m at. record {
      text_is = it m at
          ∙ ap (λ (l : List ℕ). before ++ l) (sym (append-nil (entry_made n m.entry.keys)));
      refusal = refl;
    })
IsEntryPut-and ms n before now (Err e) said same it =
    subst (λ r. IfOk r (IsEntryPut ms n [] before now)) (sym same) tt

-- if a put appends nothing when memory runs out, neither does the whole answer
pub OnErr-and : {E : Type 0} (before now : List ℕ) (is : Bool) (put : Result (Unit {0}) E)
    (said : Result Bool E) → said ≡ result_and put (Ok is) → OnErr put (now ≡ before)
    → OnErr said (now ≡ before)
OnErr-and before now is (Ok u) said same it =
    subst (λ r. OnErr r (now ≡ before)) (sym same) tt
OnErr-and before now is (Err e) said same it =
    subst (λ r. OnErr r (now ≡ before)) (sym same) it

-- if there is no room, nothing is appended
pub OnErr-pushed : {E : Type 0} (before now text : List ℕ) (put : Result (Unit {0}) E)
    → now ≡ (if is_ok put then before ++ text else before) → OnErr put (now ≡ before)
OnErr-pushed before now text (Ok u) is = tt
OnErr-pushed before now text (Err e) is = is

-- what is appended, if there is room for it
pub OnOk-pushed : {E : Type 0} (before now text : List ℕ) (put : Result (Unit {0}) E)
    → now ≡ (if is_ok put then before ++ text else before) → OnOk put (now ≡ before ++ text)
OnOk-pushed before now text (Ok u) is = is
OnOk-pushed before now text (Err e) is = tt

-- nothing changes, and a text is the answer
pub Answers-said : (text : List ℕ) (book : BookModel) (before now : List ℕ) (refused : Bool)
    → IsPut text false before now refused
    → Answers (says book.history text) book book before now refused
Answers-said text book before now refused put =
    record { text = put.text_is; history = refl; refusal = put.refusal; fixed = refl }

-- the line of a key's row, or that it has none, is said
pub Answers-row : (k : Key) (o : Option Row) (book : BookModel) (before now : List ℕ)
    (refused : Bool) → IsRowPut k o before now refused
    → Answers (shows_row book.history k o) book book before now refused
Answers-row k (Some row) book before now refused put =
    Answers-said (ended (row_line (k, row))) book before now refused put
Answers-row k None book before now refused put =
    record {
      text = put.text_is
          ∙ ap (λ (l : List ℕ). before ++ l) (sym (append-nil (refusal_line (codes "NoSuchRow"))));
      history = refl;
      refusal = put.refusal;
      fixed = refl;
    }

-- the line of an entry that is found, or that there is none
abbrev pub found_entry : History → ℕ → Option Marked → Reply
found_entry h n o = elim o [
  | Some m ↦ says h (ended (entry_line n m))
  | None ↦ refuses h (codes "NoSuchEntry") []
]

pub Answers-entry : (n : ℕ) (o : Option Marked) (book : BookModel) (before now : List ℕ)
    (refused : Bool) → IsFoundPut n o before now refused
    → Answers (found_entry book.history n o) book book before now refused
Answers-entry n (Some m) book before now refused put =
    Answers-said (ended (entry_line n m)) book before now refused put
Answers-entry n None book before now refused put =
    record {
      text = put.text_is
          ∙ ap (λ (l : List ℕ). before ++ l)
          (sym (append-nil (refusal_line (codes "NoSuchEntry"))));
      history = refl;
      refusal = put.refusal;
      fixed = refl;
    }

-- an entry is made, and said with what stands behind it
pub Answers-made : (e : Entry) (behind : List ℕ) (old new : BookModel) (ms : List Marked) (n : ℕ)
    (before now : List ℕ) (refused : Bool) → new.history ≡ with_entry old.history e
    → new.fixed ≡ old.fixed → n ≡ length old.history.journal + 1 → ms ≡ new.history.journal
    → IsEntryPut ms n behind before now refused
    → Answers (enters old.history e behind) old new before now refused
Answers-made e behind old new ms n before now refused is fixed number same put =
    let it = put (standing_entry e)
    (ap (λ (l : List Marked). entry_at l n) same ∙ made_is old.history new.history e n is number) in
    record {
      text = it.text_is ∙ ap (λ (m : ℕ). before ++ (entry_made m e.keys ++ behind)) number;
      history = is;
      refusal = it.refusal;
      fixed = fixed;
    }

pub arrives-made : (k : Key) (old new : BookModel) (n : ℕ) → ArriveOutcome k old new (Ok n)
    → arrives old.history k (row_of (rows_of old.history) k)
    ≡ enters old.history (record { kind = kinds.Arrive; keys = k ∷ [] }) []
arrives-made k old new n h = rw (h.1, h.2) refl

pub sweeps-made : (h : History) (keys : List Key) → keys ≢ []
    → sweeps h keys ≡ enters h (record { kind = kinds.Sweep; keys = keys }) []
sweeps-made h [] some = absurd (some refl)
sweeps-made h (k ∷ keys) some = refl

-- nothing changes, and the refusal is named
pub Answers-refused : (name : List ℕ) (old new : BookModel) (before now : List ℕ) (refused : Bool)
    → new ≡ old → IsPut (refusal_line name) true before now refused
    → Answers (refuses old.history name []) old new before now refused
Answers-refused name old new before now refused is put = record {
  text = put.text_is ∙ ap (λ (l : List ℕ). before ++ l) (sym (append-nil (refusal_line name)));
  history = ap (λ (b : BookModel). b.history) is;
  refusal = put.refusal;
  fixed = ap (λ (b : BookModel). b.fixed) is;
}

-- a call that refuses the line changes nothing, and names the refusal
pub Answers-refuse : {E : Type 0} (name : List ℕ) (book : BookModel) (before now : List ℕ)
    (said : Result Bool E) → IfOk said (IsPut (refusal_line name) true before now)
    → IfOk said (Answers (refuses book.history name []) book book before now)
Answers-refuse name book before now said put =
    IfOk-weaker said (IsPut (refusal_line name) true before now)
    (Answers (refuses book.history name []) book book before now)
    (λ refused. Answers-refused name book book before now refused refl) put

-- ---- 3. calls

-- what is appended after a line is appended with it
pub OnOk-behind : {E : Type 0} (before mid now line behind : List ℕ) (put : Result (Unit {0}) E)
    → mid ≡ before ++ line → OnOk put (now ≡ mid ++ behind)
    → OnOk put (now ≡ before ++ (line ++ behind))
OnOk-behind before mid now line behind (Ok u) one two =
    two ∙ ap (λ (l : List ℕ). l ++ behind) one ∙ append_assoc before line behind
OnOk-behind before mid now line behind (Err e) one two = tt

pub Answers-arrival : (k : Key) (old new : BookModel) (ms : List Marked)
    (a : Result ℕ ArriveRefusal) (before now : List ℕ) (refused : Bool) → ms ≡ new.history.journal
    → ArriveOutcome k old new a → IsArrivalPut ms a before now refused
    → Answers (arrives old.history k (row_of (rows_of old.history) k)) old new before now refused
Answers-arrival k old new ms (Ok n) before now refused same is put =
    subst (λ (r : Reply). Answers r old new before now refused) (sym (arrives-made k old new n is))
    (Answers-made (record { kind = kinds.Arrive; keys = k ∷ [] }) [] old new ms n before now refused
    (ap (λ (b : BookModel). b.history) is.3) (ap (λ (b : BookModel). b.fixed) is.3) is.4 same put)
Answers-arrival k old new ms (Err arrivals.NoSuchRow) before now refused same is put =
    subst (λ (o : Option Row). Answers (arrives old.history k o) old new before now refused)
    (sym is.0) (Answers-refused (codes "NoSuchRow") old new before now refused is.1 put)
Answers-arrival k old new ms (Err (arrivals.DoesNotApply s)) before now refused same is put =
    let reply : arrives old.history k (row_of (rows_of old.history) k)
    ≡ refuses old.history (state_refused is.0) [] = rw (is.1, is.2) refl in
    subst (λ (r : Reply). Answers r old new before now refused) (sym reply)
    (Answers-refused (state_refused is.0) old new before now refused is.4
    (subst (λ (u : State).
    IsPut (refusal_line (codes "DoesNotApply " ++ state_word u)) true before now refused) is.3 put))
Answers-arrival k old new ms (Err arrivals.NoMemory) before now refused same is put = absurd put

pub Answers-sweep : (old new : BookModel) (ms : List Marked) (swept : Option ℕ)
    (before now : List ℕ) (refused : Bool) → ms ≡ new.history.journal
    → SweepOutcome old new (Ok swept) → IsSweepPut ms swept before now refused
    → Answers (sweeps old.history (freed_now old)) old new before now refused
Answers-sweep old new ms (Some n) before now refused same is put =
    subst (λ (r : Reply). Answers r old new before now refused)
    (sym (sweeps-made old.history (freed_now old) is.0))
    (Answers-made (record { kind = kinds.Sweep; keys = freed_now old }) [] old new ms n before now
    refused (ap (λ (b : BookModel). b.history) is.1) (ap (λ (b : BookModel). b.fixed) is.1) is.2
    same put)
Answers-sweep old new ms None before now refused same is put =
    subst (λ (ks : List Key). Answers (sweeps old.history ks) old new before now refused) (sym is.0)
    (record {
      text = put.text_is;
      history = ap (λ (b : BookModel). b.history) is.1;
      refusal = put.refusal;
      fixed = ap (λ (b : BookModel). b.fixed) is.1;
    })

undo_refused : (n : ℕ) (r : UndoRefusal) (before now : List ℕ) (refused : Bool)
    → IsUndoPut n (Err r) before now refused
    → IsPut (refusal_line (undo_name r)) true before now refused
undo_refused n undos.NoSuchEntry before now refused put = put
undo_refused n undos.NotACommand before now refused put = put
undo_refused n undos.AlreadyUndone before now refused put = put
undo_refused n undos.NoMemory before now refused put = absurd put
undo_refused n (undos.Blocked m) before now refused put = put

-- without builders none was faster
none_won : (old new : BookModel) (m : ℕ) (found : Option Marked) → old.fixed.builders ≡ 0
    → IsSomeAnd found (λ e.
    IsWon old.history new.history old.fixed.builders (off_for e.entry.kind e.entry.keys) m) → ⊥
none_won old new m None none won = won
none_won old new m (Some e) none won =
    let one = won.one in let some = won.some_builder in omega (arith, one, some, none)

pub Answers-undo : (stop : Option UndoRefusal) (n : ℕ) (old new : BookModel)
    (a : Result (Unit {0}) UndoRefusal) (before now : List ℕ) (refused : Bool)
    → old.fixed.builders ≡ 0 → UndoAnswer stop n old new a → IsUndoPut n a before now refused
    → Answers (undoes old.history n stop) old new before now refused
Answers-undo (Some r) n old new a before now refused none is put =
    Answers-refused (undo_name r) old new before now refused is.1
    (undo_refused n r before now refused
    (subst (λ (x : Result (Unit {0}) UndoRefusal). IsUndoPut n x before now refused) is.0 put))
Answers-undo None n old new (Ok u) before now refused none is put =
    record { text = put.text_is; history = is.outcome; refusal = put.refusal; fixed = is.fixed }
Answers-undo None n old new (Err undos.NoMemory) before now refused none is put = absurd put
Answers-undo None n old new (Err (undos.Blocked m)) before now refused none is put =
    absurd (none_won old new m (entry_at old.history.journal n) none is.outcome)
Answers-undo None n old new (Err undos.NoSuchEntry) before now refused none is put =
    absurd is.outcome
Answers-undo None n old new (Err undos.NotACommand) before now refused none is put =
    absurd is.outcome
Answers-undo None n old new (Err undos.AlreadyUndone) before now refused none is put =
    absurd is.outcome

-- ---- 4. what a call leaves, whatever its answer is

-- a book that stays as it was
pub left_still : (r : Reply) (b : BookModel) → IsLeftBy r b b
left_still r b = record { history = inl refl; fixed = refl }

pub left_as_it_was : (r : Reply) (old new : BookModel) → new ≡ old → IsLeftBy r old new
left_as_it_was r old new is = subst (IsLeftBy r old) (sym is) (left_still r old)

left_made : (e : Entry) (behind : List ℕ) (old new : BookModel)
    → new.history ≡ with_entry old.history e → new.fixed ≡ old.fixed
    → IsLeftBy (enters old.history e behind) old new
left_made e behind old new now fixed = record { history = inr now; fixed = fixed }

pub left_arrival : (k : Key) (old new : BookModel) (a : Result ℕ ArriveRefusal)
    → ArriveOutcome k old new a
    → IsLeftBy (arrives old.history k (row_of (rows_of old.history) k)) old new
left_arrival k old new (Ok n) is =
    subst (λ (r : Reply). IsLeftBy r old new) (sym (arrives-made k old new n is))
    (left_made (record { kind = kinds.Arrive; keys = k ∷ [] }) [] old new
    (ap (λ (b : BookModel). b.history) is.3) (ap (λ (b : BookModel). b.fixed) is.3))
left_arrival k old new (Err arrivals.NoSuchRow) is = left_as_it_was _ old new is.1
left_arrival k old new (Err (arrivals.DoesNotApply s)) is = left_as_it_was _ old new is.4
left_arrival k old new (Err arrivals.NoMemory) is = left_as_it_was _ old new is.3

pub left_sweep : (old new : BookModel) (swept : Result (Option ℕ) AllocError)
    → SweepOutcome old new swept → IsLeftBy (sweeps old.history (freed_now old)) old new
left_sweep old new (Ok None) is = left_as_it_was _ old new is.1
left_sweep old new (Ok (Some n)) is =
    subst (λ (r : Reply). IsLeftBy r old new) (sym (sweeps-made old.history (freed_now old) is.0))
    (left_made (record { kind = kinds.Sweep; keys = freed_now old }) [] old new
    (ap (λ (b : BookModel). b.history) is.1) (ap (λ (b : BookModel). b.fixed) is.1))
left_sweep old new (Err e) is = left_as_it_was _ old new is

pub left_undo : (stop : Option UndoRefusal) (n : ℕ) (old new : BookModel)
    (a : Result (Unit {0}) UndoRefusal) → old.fixed.builders ≡ 0 → UndoAnswer stop n old new a
    → IsLeftBy (undoes old.history n stop) old new
left_undo (Some r) n old new a none is = left_as_it_was _ old new is.1
left_undo None n old new (Ok u) none is =
    record { history = inr is.outcome; fixed = is.fixed }
left_undo None n old new (Err undos.NoMemory) none is =
    record { history = inl is.outcome; fixed = is.fixed }
left_undo None n old new (Err (undos.Blocked m)) none is =
    absurd (none_won old new m (entry_at old.history.journal n) none is.outcome)
left_undo None n old new (Err undos.NoSuchEntry) none is = absurd is.outcome
left_undo None n old new (Err undos.NotACommand) none is = absurd is.outcome
left_undo None n old new (Err undos.AlreadyUndone) none is = absurd is.outcome

-- ---- 5. without builders no withdrawal is lost

noting_one-none : (h : History) (k : Key) → noting_one h k zero ≡ h
noting_one-none h k =
    elim (is_queued_at (rows_of h) k) as (λ b.
    (if b && is_lost zero then with_entry h (record { kind = kinds.Claim zero; keys = k ∷ [] })
    else h) ≡ h) [ true ↦ refl | false ↦ refl ]

pub noting-none : (h : History) (ks : List Key) (bs : List ℕ)
    → ((i b : ℕ) → slice_get bs i ≡ Some b → b ≤ 0) → noting h ks bs ≡ h
noting-none h [] bs none = refl
noting-none h (k ∷ ks) [] none = refl
noting-none h (k ∷ ks) (zero ∷ bs) none =
    ap (λ (x : History). noting x ks bs) (noting_one-none h k)
    ∙ noting-none h ks bs (λ i b is. none (suc i) b is)
noting-none h (k ∷ ks) (suc b ∷ bs) none =
    absurd (let small = none 0 (suc b) refl in omega (arith, small))
