-- What a call that answers a line comes to, by what it does.
use Rattle.std.proofs.Common.{◌≡◌, ℕ, Bool, true, false, List, [], ◌∷◌, ◌++◌, Option, Some, Result}
use Rattle.std.proofs.Common.{Ok}
use Rattle.std.proofs.Common.{Err, refl, sym, ap, subst, ◌∙◌}
use Rattle.td_rows.specs.Appending.{Grown}
use Rattle.td_rows.proofs.Appends.{grown_by}
use Rattle.td_journal.specs.declared.entry.Entry.{Entry}
use Rattle.td_core.specs.History.{History, rows_of, with_entry, without_entry}
use Rattle.td_script.specs.Replies.{Reply}
use Rattle.td_lasting.specs.declared.chronicle.DeskFault.{DeskFault}
use Rattle.td_lasting.specs.declared.chronicle.DeskFault.TheVariants.{Stopped, CannotWrite}
use Rattle.td_lasting.specs.declared.chronicle.DeskFault.TheVariants.{NoMemory}
use Rattle.td_lasting.specs.declared.event.Event.{Event}
use Rattle.td_lasting.specs.declared.event.Event.TheVariants.{Entered, Undone}
use Rattle.td_lasting.specs.DeskView.{DeskView, IsAtRest, IsDone}
use Rattle.td_lasting.specs.Events.{events_by}
use Rattle.td_lasting.specs.Following.{followed_all}
use Rattle.td_lasting.specs.Hands.{AreInHand}
use Rattle.td_lasting.specs.inner.Answered.{IsAnswered}
use Rattle.td_lasting.proofs.EventLaws.{Stays, events_make, events_stay, events_undo}
use Rattle.td_lasting.proofs.Saves.{lacks_memory, nothing_done}

-- ---- 1. nothing changes

pub shown : (r : Reply) (asks : Option ℕ) (v : DeskView) (before now : List ℕ) (refused : Bool)
    → IsAtRest v → v.stopped ≡ false → Stays v.history r asks → now ≡ before ++ r.text
    → refused ≡ r.refused → IsAnswered r asks v v before now (Ok refused)
shown r asks v before now refused rest on stays text refusal =
    record {
      replied = record { text = text; history = sym stays.0; refusal = refusal };
      done = subst (λ (events : List Event). IsDone {A = Bool} events v v (Ok refused))
          (sym (events_stay v.history r asks stays))
          (nothing_done refused v.history v.stock v.device v.stopped rest on);
      front = grown_by before now r.text text;
    }

-- memory ran out, whatever was to be done
pub lacking : (r : Reply) (asks : Option ℕ) (v : DeskView) (before now : List ℕ)
    (fault : DeskFault) → fault ≡ NoMemory → IsAtRest v → Grown before now
    → IsAnswered r asks v v before now (Err fault)
lacking r asks v before now fault is rest front =
    subst (λ (x : DeskFault). IsAnswered r asks v v before now (Err x)) (sym is)
    (record {
      replied = tt;
      done = lacks_memory (events_by v.history r asks) v.history v.stock v.device v.stopped rest;
      front = front;
    })

-- ---- 2. an event is done

-- what is done is so whatever is answered
done_ok : {A B : Type 0} (a : A) (b : B) (events : List Event) (old new : DeskView)
    → IsDone {A = A} events old new (Ok a) → IsDone {A = B} events old new (Ok b)
done_ok a b events old new d =
    record {
      stock = d.stock;
      honest = d.honest;
      done = d.done;
      goes_on = d.goes_on;
      steady = d.steady;
      untouched = d.untouched;
      synced = d.synced;
      any_moment = d.any_moment;
      memory = λ bad. absurd cc;
      refused = λ bad. absurd cc;
      failed = λ bad. absurd cc;
      due = λ bad. absurd cc;
    }

same_fault : {A B : Type 0} (e fault : DeskFault)
    → ◌≡◌ {A = Result B DeskFault} (Err e) (Err fault)
    → ◌≡◌ {A = Result A DeskFault} (Err e) (Err fault)
same_fault e fault is = let same : e ≡ fault = cc in ap (λ (x : DeskFault). Err x) same

done_err : {A B : Type 0} (e : DeskFault) (events : List Event) (old new : DeskView)
    → IsDone {A = A} events old new (Err e) → IsDone {A = B} events old new (Err e)
done_err {A} {B} e events old new d =
    record {
      stock = d.stock;
      honest = d.honest;
      done = tt;
      goes_on = tt;
      steady = tt;
      untouched = d.untouched;
      synced = λ _. tt;
      any_moment = d.any_moment;
      memory = λ is. d.memory (same_fault {A = A} {B = B} e NoMemory is);
      refused = λ is. d.refused (same_fault {A = A} {B = B} e Stopped is);
      failed = λ is. d.failed (same_fault {A = A} {B = B} e CannotWrite is);
      due = λ is. d.due (same_fault {A = A} {B = B} e CannotWrite is);
    }

-- the event was done, and the reply's text is appended
event_done : (r : Reply) (asks : Option ℕ) (events : List Event) (old new : DeskView)
    (before now : List ℕ) (refused : Bool) → events_by old.history r asks ≡ events
    → followed_all old.history events ≡ r.after → refused ≡ r.refused → now ≡ before ++ r.text
    → IsDone {A = Unit {0}} events old new (Ok tt)
    → IsAnswered r asks old new before now (Ok refused)
event_done r asks events old new before now refused are after refusal text d =
    record {
      replied = record { text = text; history = d.done ∙ after; refusal = refusal };
      done = subst (λ (e : List Event). IsDone {A = Bool} e old new (Ok refused)) (sym are)
          (done_ok tt refused events old new d);
      front = grown_by before now r.text text;
    }

-- or it couldn't be done
event_fails : (r : Reply) (asks : Option ℕ) (events : List Event) (old new : DeskView)
    (before now : List ℕ) (fault : DeskFault) → events_by old.history r asks ≡ events
    → Grown before now → IsDone {A = Unit {0}} events old new (Err fault)
    → IsAnswered r asks old new before now (Err fault)
event_fails r asks events old new before now fault are front d =
    record {
      replied = tt;
      done = subst (λ (e : List Event). IsDone {A = Bool} e old new (Err fault)) (sym are)
          (done_err {B = Bool} fault events old new d);
      front = front;
    }

pub entered : (r : Reply) (asks : Option ℕ) (e : Entry) (old new : DeskView) (before now : List ℕ)
    → r.after ≡ with_entry old.history e → r.refused ≡ false → now ≡ before ++ r.text
    → IsDone {A = Unit {0}} (Entered e ∷ []) old new (Ok tt)
    → IsAnswered r asks old new before now (Ok false)
entered r asks e old new before now after accepted text d =
    event_done r asks (Entered e ∷ []) old new before now false
    (events_make old.history r asks e after) (sym after) (sym accepted) text d

pub not_entered : (r : Reply) (asks : Option ℕ) (e : Entry) (old new : DeskView)
    (before now : List ℕ) (fault : DeskFault) → r.after ≡ with_entry old.history e
    → Grown before now → IsDone {A = Unit {0}} (Entered e ∷ []) old new (Err fault)
    → IsAnswered r asks old new before now (Err fault)
not_entered r asks e old new before now fault after front d =
    event_fails r asks (Entered e ∷ []) old new before now fault
    (events_make old.history r asks e after) front d

pub undone : (r : Reply) (n : ℕ) (old new : DeskView) (before now : List ℕ)
    → r.after ≡ without_entry old.history n → r.refused ≡ false → now ≡ before ++ r.text
    → IsDone {A = Unit {0}} (Undone n ∷ []) old new (Ok tt)
    → IsAnswered r (Some n) old new before now (Ok false)
undone r n old new before now after accepted text d =
    event_done r (Some n) (Undone n ∷ []) old new before now false
    (events_undo old.history r n accepted after) (sym after) (sym accepted) text d

pub not_undone : (r : Reply) (n : ℕ) (old new : DeskView) (before now : List ℕ)
    (fault : DeskFault) → r.after ≡ without_entry old.history n → r.refused ≡ false
    → Grown before now → IsDone {A = Unit {0}} (Undone n ∷ []) old new (Err fault)
    → IsAnswered r (Some n) old new before now (Err fault)
not_undone r n old new before now fault after accepted front d =
    event_fails r (Some n) (Undone n ∷ []) old new before now fault
    (events_undo old.history r n accepted after) front d

-- ---- 3. hands afterwards

-- what is in hand before and after the events is in hand, unless the desk has stopped
pub hands_after : {A : Type 0} (events : List Event) (old new : DeskView)
    (hands : List (Option ℕ)) (result : Result A DeskFault) → IsDone {A = A} events old new result
    → AreInHand (rows_of old.history) hands
    → AreInHand (rows_of (followed_all old.history events)) hands
    → new.stopped ≡ false → AreInHand (rows_of new.history) hands
hands_after events old new hands (Ok a) d before behind on =
    subst (λ (h : History). AreInHand (rows_of h) hands) (sym d.done) behind
hands_after events old new hands (Err Stopped) d before behind on =
    subst (λ (v : DeskView). AreInHand (rows_of v.history) hands) (sym (d.refused refl).1) before
hands_after events old new hands (Err CannotWrite) d before behind on =
    absurd (let stops : new.stopped ≡ true = d.failed refl in
    let bad : true ≡ false = sym stops ∙ on in cc)
hands_after events old new hands (Err NoMemory) d before behind on =
    subst (λ (v : DeskView). AreInHand (rows_of v.history) hands) (sym (d.memory refl)) before
