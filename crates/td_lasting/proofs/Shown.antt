-- The replies to the lines of a script, by what the calls of a desk answered.
use Rattle.std.proofs.Common.{◌≡◌, ℕ, ◌+◌, Bool, true, false, List, [], ◌∷◌, ◌++◌, append-nil}
use Rattle.std.proofs.Common.{length}
use Rattle.std.proofs.Common.{Option, Some, None, Ok, Err, refl, sym, ap, subst, ◌∙◌, inl}
use Rattle.std.proofs.Common.{inr}
use Rattle.std.specs.Prelude.{codes, decimal, if◌then◌else◌}
use Rattle.std.specs.List.{flat_map}
use Rattle.td_rows.specs.Appending.{Grown}
use Rattle.td_rows.specs.declared.key.Key.{Key}
use Rattle.td_rows.specs.declared.kind.Kind.{Kind}
use Rattle.td_rows.specs.declared.kind.Kind.TheVariants as kinds
use Rattle.td_rows.specs.declared.row.Row.{Row}
use Rattle.td_rows.specs.declared.state.State.{State}
use Rattle.td_rows.specs.Meaning.{applies}
use Rattle.td_rows.specs.StateWord.{state_word}
use Rattle.td_rows.specs.Table.{row_of}
use Rattle.td_journal.specs.declared.entry.Entry.{Entry}
use Rattle.td_core.specs.History.{History, rows_of}
use Rattle.td_naming.specs.declared.skips.Skip.{Skip}
use Rattle.td_book.specs.declared.arriving.ArriveRefusal.{ArriveRefusal}
use Rattle.td_book.specs.declared.arriving.ArriveRefusal.TheVariants as arrivals
use Rattle.td_book.specs.declared.undoing.UndoRefusal.{UndoRefusal}
use Rattle.td_book.specs.declared.undoing.UndoRefusal.TheVariants as undos
use Rattle.td_book.specs.Arriving.{ArrivalStop}
use Rattle.td_book.specs.Undoing.{undo_stop}
use Rattle.td_script.specs.Replies.{Reply, arrives, ended, entry_made, enters, enters_on}
use Rattle.td_script.specs.Replies.{refusal_line}
use Rattle.td_script.specs.Replies.{refuses, skip_line, state_refused, sweeps, undo_name, undoes}
use Rattle.td_script.specs.Replying.{IsArrivalRefused, IsPut, IsUndoPut}
use Rattle.td_lasting.specs.declared.chronicle.DeskFault.{DeskFault}
use Rattle.td_lasting.specs.declared.event.Event.TheVariants.{Entered, Undone}
use Rattle.td_lasting.specs.DeskView.{DeskView, IsAtRest, IsDone}
use Rattle.td_lasting.specs.inner.Answered.{IsAnswered}
use Rattle.td_lasting.proofs.AnswerLaws.{entered, not_entered, not_undone, shown, undone}

-- ---- 1. texts

-- a line that is refused, with nothing behind it
pub refused_shown : (name : List ℕ) (asks : Option ℕ) (v : DeskView) (before now : List ℕ)
    (refused : Bool) → IsAtRest v → v.stopped ≡ false
    → IsPut (refusal_line name) true before now refused
    → IsAnswered (refuses v.history name []) asks v v before now (Ok refused)
refused_shown name asks v before now refused rest on put =
    shown (refuses v.history name []) asks v before now refused rest on (refl, inr refl)
    (put.text_is ∙ ap (λ (l : List ℕ). before ++ l) (sym (append-nil (refusal_line name))))
    put.refusal

-- ---- 2. undos

undo_put : (n : ℕ) (r : UndoRefusal) (before now : List ℕ) (refused : Bool)
    → IsUndoPut n (Err r) before now refused
    → IsPut (refusal_line (undo_name r)) true before now refused
undo_put n undos.NoSuchEntry before now refused put = put
undo_put n undos.NotACommand before now refused put = put
undo_put n undos.AlreadyUndone before now refused put = put
undo_put n undos.NoMemory before now refused put = absurd put
undo_put n (undos.Blocked m) before now refused put = put

pub undo_refused : (v : DeskView) (n : ℕ) (r : UndoRefusal) (before now : List ℕ) (refused : Bool)
    → IsAtRest v → v.stopped ≡ false → undo_stop v.history.journal n ≡ Some r
    → IsUndoPut n (Err r) before now refused
    → IsAnswered (undoes v.history n (undo_stop v.history.journal n)) (Some n) v v before now
    (Ok refused)
undo_refused v n r before now refused rest on stop put =
    subst (λ (o : Option UndoRefusal).
    IsAnswered (undoes v.history n o) (Some n) v v before now (Ok refused)) (sym stop)
    (refused_shown (undo_name r) (Some n) v before now refused rest on
    (undo_put n r before now refused put))

pub undo_answered : (old new : DeskView) (n : ℕ) (before now : List ℕ)
    → undo_stop old.history.journal n ≡ None → now ≡ before ++ ended (codes "undone " ++ decimal n)
    → IsDone {A = Unit {0}} (Undone n ∷ []) old new (Ok tt)
    → IsAnswered (undoes old.history n (undo_stop old.history.journal n)) (Some n) old new before
    now (Ok false)
undo_answered old new n before now stop text done =
    subst (λ (o : Option UndoRefusal).
    IsAnswered (undoes old.history n o) (Some n) old new before now (Ok false)) (sym stop)
    (undone (undoes old.history n None) n old new before now refl refl text done)

pub undo_failed : (old new : DeskView) (n : ℕ) (before now : List ℕ) (fault : DeskFault)
    → undo_stop old.history.journal n ≡ None → Grown before now
    → IsDone {A = Unit {0}} (Undone n ∷ []) old new (Err fault)
    → IsAnswered (undoes old.history n (undo_stop old.history.journal n)) (Some n) old new before
    now (Err fault)
undo_failed old new n before now fault stop front done =
    subst (λ (o : Option UndoRefusal).
    IsAnswered (undoes old.history n o) (Some n) old new before now (Err fault)) (sym stop)
    (not_undone (undoes old.history n None) n old new before now fault refl refl front done)

-- ---- 3. entries

-- the line of an entry that is the next, and a text behind it
pub enters_text : (h : History) (e : Entry) (behind before now : List ℕ) (n : ℕ)
    → n ≡ length h.journal + 1 → now ≡ before ++ (entry_made n e.keys ++ behind)
    → now ≡ before ++ (enters h e behind).text
enters_text h e behind before now n number text =
    text ∙ ap (λ (m : ℕ). before ++ (entry_made m e.keys ++ behind)) number

pub enters_alone : (h : History) (e : Entry) (before now : List ℕ) (n : ℕ)
    → n ≡ length h.journal + 1 → now ≡ before ++ entry_made n e.keys
    → now ≡ before ++ (enters h e []).text
enters_alone h e before now n number text =
    enters_text h e [] before now n number
    (text ∙ ap (λ (l : List ℕ). before ++ l) (sym (append-nil (entry_made n e.keys))))

-- an entry was made
pub entry_answered : (r : Reply) (e : Entry) (behind : List ℕ) (old new : DeskView)
    (before now : List ℕ) → r ≡ enters old.history e behind
    → now ≡ before ++ (enters old.history e behind).text
    → IsDone {A = Unit {0}} (Entered e ∷ []) old new (Ok tt)
    → IsAnswered r None old new before now (Ok false)
entry_answered r e behind old new before now is text done =
    subst (λ (x : Reply). IsAnswered x None old new before now (Ok false)) (sym is)
    (entered (enters old.history e behind) None e old new before now refl refl text done)

pub entry_failed : (r : Reply) (e : Entry) (behind : List ℕ) (old new : DeskView)
    (before now : List ℕ) (fault : DeskFault) → r ≡ enters old.history e behind
    → Grown before now → IsDone {A = Unit {0}} (Entered e ∷ []) old new (Err fault)
    → IsAnswered r None old new before now (Err fault)
entry_failed r e behind old new before now fault is front done =
    subst (λ (x : Reply). IsAnswered x None old new before now (Err fault)) (sym is)
    (not_entered (enters old.history e behind) None e old new before now fault refl front done)

-- ---- 4. arrivals and sweeps

pub arrives_made : (h : History) (k : Key) (row : Row) → row_of (rows_of h) k ≡ Some row
    → applies kinds.Arrive row ≡ true
    → arrives h k (row_of (rows_of h) k)
    ≡ enters h (record { kind = kinds.Arrive; keys = k ∷ [] }) []
arrives_made h k row found fit =
    ap (arrives h k) found
    ∙ ap (λ (b : Bool).
    if b then enters h (record { kind = kinds.Arrive; keys = k ∷ [] }) []
    else refuses h (state_refused row) []) fit

arrives_not : (h : History) (k : Key) (row : Row) → row_of (rows_of h) k ≡ Some row
    → applies kinds.Arrive row ≡ false
    → arrives h k (row_of (rows_of h) k) ≡ refuses h (state_refused row) []
arrives_not h k row found other =
    ap (arrives h k) found
    ∙ ap (λ (b : Bool).
    if b then enters h (record { kind = kinds.Arrive; keys = k ∷ [] }) []
    else refuses h (state_refused row) []) other

pub arrival_refused : (v : DeskView) (k : Key) (why : ArriveRefusal) (before now : List ℕ)
    (refused : Bool) → IsAtRest v → v.stopped ≡ false → ArrivalStop k (rows_of v.history) why
    → IsArrivalRefused why before now refused
    → IsAnswered (arrives v.history k (row_of (rows_of v.history) k)) None v v before now
    (Ok refused)
arrival_refused v k arrivals.NoSuchRow before now refused rest on none put =
    subst (λ (o : Option Row). IsAnswered (arrives v.history k o) None v v before now (Ok refused))
    (sym none) (refused_shown (codes "NoSuchRow") None v before now refused rest on put)
arrival_refused v k (arrivals.DoesNotApply s) before now refused rest on why put =
    subst (λ (r : Reply). IsAnswered r None v v before now (Ok refused))
    (sym (arrives_not v.history k why.0 why.1 why.2))
    (refused_shown (state_refused why.0) None v before now refused rest on
    (subst (λ (u : State).
    IsPut (refusal_line (codes "DoesNotApply " ++ state_word u)) true before now refused) why.3
    put))
arrival_refused v k arrivals.NoMemory before now refused rest on why put = absurd why

pub sweeps_made : (h : History) (keys : List Key) → (keys ≡ [] → ⊥)
    → sweeps h keys ≡ enters h (record { kind = kinds.Sweep; keys = keys }) []
sweeps_made h [] some = absurd (some refl)
sweeps_made h (k ∷ keys) some = refl

-- ---- 5. commands

pub enters_made : (h : History) (kind : Kind) (keys : List Key) (behind : List ℕ)
    → (keys ≡ [] → ⊥)
    → enters_on h kind keys behind ≡ enters h (record { kind = kind; keys = keys }) behind
enters_made h kind [] behind some = absurd (some refl)
enters_made h kind (k ∷ keys) behind some = refl

pub enters_none : (h : History) (kind : Kind) (keys : List Key) (behind : List ℕ) → keys ≡ []
    → enters_on h kind keys behind ≡ refuses h (codes "NothingApplies") behind
enters_none h kind keys behind none = ap (λ (l : List Key). enters_on h kind l behind) none

-- a command that applies on no row
pub command_refused : (v : DeskView) (kind : Kind) (keys : List Key) (skips : List Skip)
    (before now : List ℕ) (refused : Bool) → IsAtRest v → v.stopped ≡ false → keys ≡ []
    → IsPut (refusal_line (codes "NothingApplies") ++ flat_map skip_line skips) true before now
    refused
    → IsAnswered (enters_on v.history kind keys (flat_map skip_line skips)) None v v before now
    (Ok refused)
command_refused v kind keys skips before now refused rest on none put =
    subst (λ (r : Reply). IsAnswered r None v v before now (Ok refused))
    (sym (enters_none v.history kind keys (flat_map skip_line skips) none))
    (shown (refuses v.history (codes "NothingApplies") (flat_map skip_line skips)) None v before now
    refused rest on (refl, inl refl) put.text_is put.refusal)
