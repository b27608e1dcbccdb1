-- What holds of a desk after an event, whether it was done or not.
use Rattle.std.proofs.Common.{◌≡◌, ℕ, ◌-◌, ◌<◌, true, false, List, [], ◌∷◌, length, set}
use Rattle.std.proofs.Common.{Option}
use Rattle.std.proofs.Common.{Some, None, Result, Ok, refl, sym, subst}
use Rattle.td_rows.specs.declared.key.Key.{Key}
use Rattle.td_rows.specs.declared.kind.Kind.TheVariants as kinds
use Rattle.td_rows.specs.declared.outcome.Outcome.{Outcome}
use Rattle.td_rows.specs.Keys.{ascending}
use Rattle.td_rows.specs.Limits.{max_builders}
use Rattle.td_rows.specs.Table.{AppliesOn, IsAt, keys_of}
use Rattle.td_journal.specs.declared.entry.Entry.{Entry}
use Rattle.td_journal.specs.Entries.{standing}
use Rattle.td_journal.specs.EntryFits.{IsBuilder}
use Rattle.td_journal.specs.Replay.{Lawful}
use Rattle.td_core.specs.History.{rows_of, with_entry, without_entry}
use Rattle.td_lasting.specs.declared.chronicle.DeskFault.{DeskFault}
use Rattle.td_lasting.specs.declared.event.Event.{Event}
use Rattle.td_lasting.specs.declared.event.Event.TheVariants.{Entered, Undone}
use Rattle.td_lasting.specs.DeskAnswers.{claim_entry}
use Rattle.td_lasting.specs.DeskView.{DeskView, IsAtRest, IsDesk, IsDone}
use Rattle.td_lasting.specs.Following.{followed_all}
use Rattle.td_lasting.specs.Hands.{AreInHand, held_by}
use Rattle.td_lasting.specs.Tales.{is_claim}
use Rattle.td_lasting.specs.Telling.{is_lawful}
use Rattle.td_lasting.proofs.AnswerLaws.{hands_after}
use Rattle.td_lasting.proofs.HandLaws.{hands_ready}
use Rattle.td_lasting.proofs.TaleHands.{kept_by_claim, kept_by_end, kept_by_entry, kept_by_undo}

-- hands that hold the rows before the events and after them
desk_after : {A : Type 0} (events : List Event) (old new : DeskView) (hands : List (Option ℕ))
    (result : Result A DeskFault) → IsAtRest new → IsDone {A = A} events old new result
    → AreInHand (rows_of old.history) hands
    → AreInHand (rows_of (followed_all old.history events)) hands → IsDesk new hands
desk_after {A} events old new hands result rest done before behind =
    record {
      rest = rest;
      in_hand = hands_after {A = A} events old new hands result done before behind;
    }

-- an entry that is no claim
pub desk_entered : {A : Type 0} (e : Entry) (old new : DeskView) (hands : List (Option ℕ))
    (result : Result A DeskFault) → is_claim e.kind ≡ false → old.stopped ≡ false
    → IsDesk old hands → IsAtRest new → IsDone {A = A} (Entered e ∷ []) old new result
    → IsDesk new hands
desk_entered {A} e old new hands result other on desk rest done =
    desk_after {A = A} (Entered e ∷ []) old new hands result rest done (desk.in_hand on)
    (kept_by_entry old.history (with_entry old.history e) e hands refl other (desk.in_hand on))

-- an undo
pub desk_undone : {A : Type 0} (n : ℕ) (old new : DeskView) (hands : List (Option ℕ))
    (result : Result A DeskFault) → Lawful old.history.opening (standing old.history.journal)
    → ascending (keys_of old.history.opening) ≡ true
    → is_lawful old.history (Undone n) ≡ true → old.stopped ≡ false → IsDesk old hands
    → IsAtRest new → IsDone {A = A} (Undone n ∷ []) old new result → IsDesk new hands
desk_undone {A} n old new hands result lawful up free on desk rest done =
    desk_after {A = A} (Undone n ∷ []) old new hands result rest done (desk.in_hand on)
    (kept_by_undo old.history (without_entry old.history n) n hands refl lawful up free
    (desk.in_hand on))

-- a builder without a row takes one: it was put into its hand before
pub desk_claimed : {A : Type 0} (b number : ℕ) (k : Key) (old new : DeskView)
    (hands taken : List (Option ℕ)) (result : Result A DeskFault)
    → ascending (keys_of old.history.opening) ≡ true → IsBuilder b → length hands ≡ max_builders
    → IsAt (rows_of old.history) k number → held_by (rows_of old.history) b ≡ None
    → taken ≡ set hands (b - 1) (Some number) → old.stopped ≡ false → IsDesk old hands
    → IsAtRest new → IsDone {A = A} (Entered (claim_entry b k) ∷ []) old new result
    → IsDesk new taken
desk_claimed {A} b number k old new hands taken result up builder room at free is on desk rest
    done =
    desk_after {A = A} (Entered (claim_entry b k) ∷ []) old new taken result rest done
    (subst (λ (x : List (Option ℕ)). AreInHand (rows_of old.history) x) (sym is)
    (hands_ready (rows_of old.history) b (Some number) hands builder.0 free (desk.in_hand on)))
    (kept_by_claim old.history (with_entry old.history (claim_entry b k)) (claim_entry b k) b number
    k hands taken refl refl refl up builder room at free (desk.in_hand on) is)

-- a builder's build ended, and nothing is in its hand
pub desk_ended : (b : ℕ) (o : Outcome) (e : Entry) (old new : DeskView)
    (hands left : List (Option ℕ)) → e.kind ≡ kinds.Outcome b o
    → ascending (keys_of old.history.opening) ≡ true → IsBuilder b → 0 < length e.keys
    → AppliesOn (rows_of old.history) e.kind e.keys → left ≡ set hands (b - 1) None
    → old.stopped ≡ false → IsDesk old hands → IsAtRest new
    → IsDone {A = Unit {0}} (Entered e ∷ []) old new (Ok tt) → IsDesk new left
desk_ended b o e old new hands left kind up builder some fit is on desk rest done =
    record {
      rest = rest;
      in_hand = λ _.
          kept_by_end old.history new.history e b o hands left done.done kind up builder.0 some fit
          (desk.in_hand on) is;
    }
