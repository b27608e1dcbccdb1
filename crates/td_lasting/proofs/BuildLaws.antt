-- The replies to claims, and to the ends of builds.
use Rattle.std.proofs.Common.{◌≡◌, ℕ, Bool, true, false, List, [], ◌∷◌, ◌++◌, Option, Some, None}
use Rattle.std.proofs.Common.{is_some}
use Rattle.std.proofs.Common.{Ok, Err, option_map, refl, sym, ap, subst, ◌∙◌}
use Rattle.std.specs.Prelude.{codes, if◌then◌else◌}
use Rattle.td_rows.specs.Appending.{Grown}
use Rattle.td_rows.specs.declared.key.Key.{Key}
use Rattle.td_rows.specs.declared.kind.Kind.TheVariants as kinds
use Rattle.td_rows.specs.declared.outcome.Outcome.{Outcome}
use Rattle.td_rows.specs.declared.row.Row.{Row}
use Rattle.td_rows.specs.declared.state.State.{State}
use Rattle.td_rows.specs.Meaning.{applies}
use Rattle.td_rows.specs.StateWord.{state_word}
use Rattle.td_rows.specs.Table.{row_of}
use Rattle.td_core.specs.History.{History, rows_of}
use Rattle.td_script.specs.Replies.{Reply, Setting, enters, refusal_line, refuses, state_refused}
use Rattle.td_script.specs.Replying.{IsPut}
use Rattle.td_lasting.specs.declared.building.ClaimRefusal.{ClaimRefusal}
use Rattle.td_lasting.specs.declared.building.ClaimRefusal.TheVariants as stops
use Rattle.td_lasting.specs.declared.chronicle.DeskFault.{DeskFault}
use Rattle.td_lasting.specs.declared.event.Event.TheVariants.{Entered}
use Rattle.td_lasting.specs.DeskAnswers.{builds_line, claim_entry, claims, end_entry, ends}
use Rattle.td_lasting.specs.DeskAnswers.{finishes}
use Rattle.td_lasting.specs.DeskAnswers.{is_readable, makes}
use Rattle.td_lasting.specs.DeskView.{DeskView, IsAtRest, IsDone}
use Rattle.td_lasting.specs.Hands.{held_by}
use Rattle.td_lasting.specs.inner.Answered.{IsAnswered, IsClaimStop, claim_refused}
use Rattle.td_lasting.proofs.AnswerLaws.{entered, not_entered}
use Rattle.td_lasting.proofs.Shown.{refused_shown}

-- ---- 1. claims

-- the reply to a claim of a row, by whether the builder has one, and by whether it may be taken
abbrev claim_by : Setting → History → ℕ → Key → Row → Bool → Bool → Reply
claim_by s h b k row held fit =
    if held then refuses h (codes "NotFree") []
    else (if fit then makes h (claim_entry b k) (builds_line s h k row)
    else refuses h (state_refused row) [])

-- of a key with a row
claims_by : (s : Setting) (h : History) (b : ℕ) (k : Key) (row : Row) (held fit : Bool)
    → row_of (rows_of h) k ≡ Some row → is_some (held_by (rows_of h) b) ≡ held
    → applies (kinds.Claim b) row ≡ fit
    → claims s h b k (row_of (rows_of h) k) ≡ claim_by s h b k row held fit
claims_by s h b k row held fit found has is =
    ap (claims s h b k) found
    ∙ ap (λ (x : Bool). claim_by s h b k row x (applies (kinds.Claim b) row)) has
    ∙ ap (claim_by s h b k row held) is

pub claims_made : (s : Setting) (h : History) (b : ℕ) (k : Key) (row : Row)
    → row_of (rows_of h) k ≡ Some row → held_by (rows_of h) b ≡ None
    → applies (kinds.Claim b) row ≡ true
    → claims s h b k (row_of (rows_of h) k) ≡ makes h (claim_entry b k) (builds_line s h k row)
claims_made s h b k row found free fit =
    claims_by s h b k row false true found (ap (λ (o : Option Key). is_some o) free) fit

-- a builder took a row
pub claim_answered : (s : Setting) (old new : DeskView) (b : ℕ) (k : Key) (row : Row)
    (before now : List ℕ) → row_of (rows_of old.history) k ≡ Some row
    → held_by (rows_of old.history) b ≡ None → applies (kinds.Claim b) row ≡ true
    → now ≡ before ++ builds_line s old.history k row
    → IsDone {A = Unit {0}} (Entered (claim_entry b k) ∷ []) old new (Ok tt)
    → IsAnswered (claims s old.history b k (row_of (rows_of old.history) k)) None old new before now
    (Ok false)
claim_answered s old new b k row before now found free fit text done =
    subst (λ (r : Reply). IsAnswered r None old new before now (Ok false))
    (sym (claims_made s old.history b k row found free fit))
    (entered (makes old.history (claim_entry b k) (builds_line s old.history k row)) None
    (claim_entry b k) old new before now refl refl text done)

pub claim_failed : (s : Setting) (old new : DeskView) (b : ℕ) (k : Key) (row : Row)
    (before now : List ℕ) (fault : DeskFault) → row_of (rows_of old.history) k ≡ Some row
    → held_by (rows_of old.history) b ≡ None → applies (kinds.Claim b) row ≡ true
    → Grown before now → IsDone {A = Unit {0}} (Entered (claim_entry b k) ∷ []) old new (Err fault)
    → IsAnswered (claims s old.history b k (row_of (rows_of old.history) k)) None old new before now
    (Err fault)
claim_failed s old new b k row before now fault found free fit front done =
    subst (λ (r : Reply). IsAnswered r None old new before now (Err fault))
    (sym (claims_made s old.history b k row found free fit))
    (not_entered (makes old.history (claim_entry b k) (builds_line s old.history k row)) None
    (claim_entry b k) old new before now fault refl front done)

-- it may not take it
pub claim_stopped : (s : Setting) (v : DeskView) (b : ℕ) (k : Key) (why : ClaimRefusal)
    (before now : List ℕ) (refused : Bool) → IsAtRest v → v.stopped ≡ false
    → IsClaimStop (rows_of v.history) b k why → IsPut (claim_refused why) true before now refused
    → IsAnswered (claims s v.history b k (row_of (rows_of v.history) k)) None v v before now
    (Ok refused)
claim_stopped s v b k stops.NoSuchRow before now refused rest on why put =
    subst (λ (o : Option Row).
    IsAnswered (claims s v.history b k o) None v v before now (Ok refused)) (sym why)
    (refused_shown (codes "NoSuchRow") None v before now refused rest on put)
claim_stopped s v b k stops.NotFree before now refused rest on why put =
    subst (λ (r : Reply). IsAnswered r None v v before now (Ok refused))
    (sym (claims_by s v.history b k why.0 true (applies (kinds.Claim b) why.0) why.1 why.2 refl))
    (refused_shown (codes "NotFree") None v before now refused rest on put)
claim_stopped s v b k (stops.DoesNotApply t) before now refused rest on why put =
    subst (λ (r : Reply). IsAnswered r None v v before now (Ok refused))
    (sym (claims_by s v.history b k why.0 false false why.1
    (ap (λ (o : Option Key). is_some o) why.2) why.3))
    (refused_shown (state_refused why.0) None v before now refused rest on
    (subst (λ (u : State).
    IsPut (refusal_line (codes "DoesNotApply " ++ state_word u)) true before now refused) why.4
    put))

-- ---- 2. the ends of builds

pub finishes_by : (h : History) (b : ℕ) (o : Outcome) → is_readable o ≡ true
    → finishes h b o ≡ ends h b o (held_by (rows_of h) b)
finishes_by h b o readable =
    ap (λ (x : Bool). if x then ends h b o (held_by (rows_of h) b)
    else refuses h (codes "BadRelation") []) readable

-- what a build waits for is no relation
pub end_unread : (v : DeskView) (b : ℕ) (o : Outcome) (before now : List ℕ) (refused : Bool)
    → IsAtRest v → v.stopped ≡ false → is_readable o ≡ false
    → IsPut (refusal_line (codes "BadRelation")) true before now refused
    → IsAnswered (finishes v.history b o) None v v before now (Ok refused)
end_unread v b o before now refused rest on readable put =
    subst (λ (x : Bool).
    IsAnswered (if x then ends v.history b o (held_by (rows_of v.history) b)
    else refuses v.history (codes "BadRelation") []) None v v before now (Ok refused))
    (sym readable) (refused_shown (codes "BadRelation") None v before now refused rest on put)

-- the builder has no row
pub end_of_none : (v : DeskView) (b : ℕ) (o : Outcome) (before now : List ℕ) (refused : Bool)
    → IsAtRest v → v.stopped ≡ false → is_readable o ≡ true → held_by (rows_of v.history) b ≡ None
    → IsPut (refusal_line (codes "NothingHeld")) true before now refused
    → IsAnswered (finishes v.history b o) None v v before now (Ok refused)
end_of_none v b o before now refused rest on readable none put =
    subst (λ (r : Reply). IsAnswered r None v v before now (Ok refused))
    (sym (finishes_by v.history b o readable ∙ ap (ends v.history b o) none))
    (refused_shown (codes "NothingHeld") None v before now refused rest on put)

-- the builder has this row, as the keys of an entry
pub record HasKey (o : Option Key) (keys : List Key) : Type 0 where
  pub key : Key
  pub held : o ≡ Some key
  pub keys_are : key ∷ [] ≡ keys

pub has_key : (o : Option Key) (keys : List Key) → option_map (λ k. k ∷ []) o ≡ Some keys
    → HasKey o keys
has_key None keys is = absurd cc
has_key (Some k) keys is = record { key = k; held = refl; keys_are = cc }

pub no_key : (o : Option Key) → option_map (λ k. k ∷ []) o ≡ None → o ≡ None
no_key None is = refl
no_key (Some k) is = absurd cc

-- its build ends
pub ends_made : (h : History) (b : ℕ) (o : Outcome) (k : Key) → held_by (rows_of h) b ≡ Some k
    → ends h b o (held_by (rows_of h) b) ≡ enters h (end_entry b o k) []
ends_made h b o k held = ap (ends h b o) held

-- an end, as it is entered: the entry names the row that the builder has
pub end_after : (h : History) (b : ℕ) (o : Outcome) (keys : List Key)
    → option_map (λ k. k ∷ []) (held_by (rows_of h) b) ≡ Some keys
    → ends h b o (held_by (rows_of h) b)
    ≡ enters h (record { kind = kinds.Outcome b o; keys = keys }) []
end_after h b o keys held =
    let has = has_key (held_by (rows_of h) b) keys held in
    ends_made h b o has.key has.held
    ∙ ap (λ (l : List Key). enters h (record { kind = kinds.Outcome b o; keys = l }) [])
    has.keys_are
