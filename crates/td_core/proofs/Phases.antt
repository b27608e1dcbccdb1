-- The phase of a key's row, by the row's number.
use Rattle.std.proofs.Common.{◌≡◌, ℕ, zero, suc, ◌-◌, ◌<◌, ◌≤◌, true, false, List, [], ◌∷◌, Option}
use Rattle.std.proofs.Common.{Some, None, IfSome, if◌then◌else◌, is_some, length, set, slice_get}
use Rattle.std.proofs.Common.{get_or, ap, refl, sym, ◌∙◌, arith}
use Rattle.std.specs.Option.{option_copied, MatchOption}
use Rattle.std.specs.List.{HoldsAt}
use denote.Ref.{Bor}
use Rattle.std.proofs.lemmas.Option.{slice_get_past, slice_get_within, slice_get-get_or}
use Rattle.std.proofs.lemmas.Bool.Decides.{nat_tests}
use Rattle.td_rows.specs.declared.key.Key.{Key}
use Rattle.td_rows.specs.declared.row.Row.{Row}
use Rattle.td_rows.specs.Keys.{same_key, names, ascending}
use Rattle.td_rows.specs.Table.{Table, row_of, keys_of, IsAt}
use Rattle.td_rows.proofs.Keys.{same_key-true, same_key-refl}
use Rattle.td_change.specs.Saved.{place_of, number_of}
use Rattle.td_change.proofs.Numbers.{number_of-at, is_some-row_of}
use Rattle.td_journal.specs.Entries.{standing}
use Rattle.td_core.specs.declared.step.Phase.{Phase}
use Rattle.td_core.specs.declared.step.Hand.{Hand}
use Rattle.td_core.specs.History.{History, rows_of}
use Rattle.td_core.specs.Worlds.{WorldView, phase_of, with_phase, hand_of, IsWorld}
use Rattle.td_core.proofs.Histories.{keys_of-replay}

pub keys_of-rows_of : (h : History) → keys_of (rows_of h) ≡ keys_of h.opening
keys_of-rows_of h = keys_of-replay h.opening (standing h.journal)

-- a row's number is its key's in the opening rows too
pub number_of-IsAt : (h : History) (k : Key) (n : ℕ) → ascending (keys_of h.opening) ≡ true
    → IsAt (rows_of h) k n → n ≡ number_of h.opening k
number_of-IsAt h k n rising at =
    number_of-at (rows_of h) k n at.row (ap ascending (keys_of-rows_of h) ∙ rising) at.at
    ∙ ap (λ (ks : List Key). place_of ks k) (keys_of-rows_of h)

-- a key that has no row has the number past them all
place_of-absent : (ks : List Key) (k : Key) → names ks k ≡ false → place_of ks k ≡ length ks
place_of-absent [] k h = refl
place_of-absent (q ∷ ks) k h =
    elim (same_key k q) as (λ b.
    (if b then true else names ks k) ≡ false
    → (if b then 0 else suc (place_of ks k)) ≡ suc (length ks)) [
      | true ↦ λ g. cc
      | false ↦ λ g. ap suc (place_of-absent ks k g)
    ] h

pub length-keys_of : (t : Table) → length (keys_of t) ≡ length t
length-keys_of [] = refl
length-keys_of (p ∷ t) = ap suc (length-keys_of t)

pub named-row_of : (h : History) (k : Key)
    → names (keys_of h.opening) k ≡ is_some (row_of (rows_of h) k)
named-row_of h k =
    sym (is_some-row_of (rows_of h) k ∙ ap (λ (ks : List Key). names ks k) (keys_of-rows_of h))

pub number_of-absent : (h : History) (k : Key) → row_of (rows_of h) k ≡ None
    → number_of h.opening k ≡ length h.opening
number_of-absent h k none =
    place_of-absent (keys_of h.opening) k (named-row_of h k ∙ ap is_some none)
    ∙ length-keys_of h.opening

pub phase_of-past : (w : WorldView) (k : Key) → length w.phases ≡ length w.history.opening
    → row_of (rows_of w.history) k ≡ None → phase_of w k ≡ None
phase_of-past w k sized none =
    slice_get_past w.phases (number_of w.history.opening k)
    (omega (arith, number_of-absent w.history k none, sized))

pub phase_of-absent : (w : WorldView) (k : Key) → IsWorld w → row_of (rows_of w.history) k ≡ None
    → phase_of w k ≡ None
phase_of-absent w k i none = phase_of-past w k i.sized none

-- what a look-up by number lends is the item with that number
pub copied-at : {A : Type 0} (xs : List A) (i : ℕ) (o : Option (Bor A))
    → IfSome o (λ x. x.now ≡ get_or xs i x.now) → MatchOption o (length xs ≤ i)
    (λ x. (i < length xs) × HoldsAt (λ y. x.now ≡ y) xs i) → option_copied o ≡ slice_get xs i
copied-at xs i None is within = sym (slice_get_past xs i within)
copied-at xs i (Some x) is within =
    sym (slice_get-get_or xs i x.now within.0 ∙ ap (λ y. Some y) (sym is))

-- the numbers of two keys differ where one of them has a row
place_of-apart : (ks : List Key) (k q : Key) → names ks q ≡ true → same_key q k ≡ false
    → place_of ks k ≡ place_of ks q → ⊥
place_of-apart [] k q named apart e = cc
place_of-apart (x ∷ ks) k q named apart same_place =
    elim (same_key k x) as (λ b.
    same_key k x ≡ b → (if b then 0 else suc (place_of ks k))
    ≡ (if same_key q x then 0 else suc (place_of ks q)) → ⊥) [
      | true ↦
          λ one. elim (same_key q x) as (λ c.
          same_key q x ≡ c → 0 ≡ (if c then 0 else suc (place_of ks q)) → ⊥) [
            | true ↦ λ two _.
                let same : q ≡ k = same_key-true q x two ∙ sym (same_key-true k x one) in
                let yes : same_key q k ≡ true = ap (same_key q) (sym same) ∙ same_key-refl q in
                cc
            | false ↦ λ two e. omega (arith, e)
          ] refl
      | false ↦
          λ one. elim (same_key q x) as (λ c.
          (if c then true else names ks q) ≡ true
          → suc (place_of ks k) ≡ (if c then 0 else suc (place_of ks q)) → ⊥) [
            | true ↦ λ _ e. omega (arith, e)
            | false ↦ λ rest e. place_of-apart ks k q rest apart (omega (arith, e))
          ] named
    ] refl same_place

pub slice_get-set : {A : Type 0} (xs : List A) (i : ℕ) (y x : A) → slice_get (set xs i y) i ≡ Some x
    → y ≡ x
slice_get-set [] zero y x h = cc
slice_get-set [] (suc i) y x h = cc
slice_get-set (z ∷ xs) zero y x h = cc
slice_get-set (z ∷ xs) (suc i) y x h = slice_get-set xs i y x h

-- what is put where something was
pub slice_get-set-here : {A : Type 0} (xs : List A) (i : ℕ) (x y : A) → slice_get xs i ≡ Some x
    → slice_get (set xs i y) i ≡ Some y
slice_get-set-here [] zero x y h = cc
slice_get-set-here [] (suc i) x y h = cc
slice_get-set-here (z ∷ xs) zero x y h = refl
slice_get-set-here (z ∷ xs) (suc i) x y h = slice_get-set-here xs i x y h

pub slice_get-set-other : {A : Type 0} (xs : List A) (i j : ℕ) (y : A) → (i ≡ j → ⊥)
    → slice_get (set xs i y) j ≡ slice_get xs j
slice_get-set-other [] zero j y other = refl
slice_get-set-other [] (suc i) j y other = refl
slice_get-set-other (z ∷ xs) zero zero y other = absurd (other refl)
slice_get-set-other (z ∷ xs) zero (suc j) y other = refl
slice_get-set-other (z ∷ xs) (suc i) zero y other = refl
slice_get-set-other (z ∷ xs) (suc i) (suc j) y other =
    slice_get-set-other xs i j y (λ e. other (ap suc e))

pub set-past : {A : Type 0} (xs : List A) (i : ℕ) (y : A) → length xs ≤ i → set xs i y ≡ xs
set-past [] zero y h = refl
set-past [] (suc i) y h = refl
set-past (z ∷ xs) zero y h = absurd (omega (arith, h))
set-past (z ∷ xs) (suc i) y h = ap (λ ys. z ∷ ys) (set-past xs i y (omega (arith, h)))

-- what stands there already
pub set-same : {A : Type 0} (xs : List A) (i : ℕ) (y : A) → slice_get xs i ≡ Some y
    → set xs i y ≡ xs
set-same [] zero y h = refl
set-same [] (suc i) y h = refl
set-same (z ∷ xs) zero y h = let same : y ≡ z = cc in ap (λ x. x ∷ xs) same
set-same (z ∷ xs) (suc i) y h = ap (λ ys. z ∷ ys) (set-same xs i y h)

-- a builder that has a hand
pub hand_of-within : (w : WorldView) (b : ℕ) (h : Hand) → hand_of w b ≡ Some h
    → (0 < b) × (b - 1 < length w.hands)
hand_of-within w zero h is = cc
hand_of-within w (suc b) h is =
    (omega arith, slice_get_within w.hands (suc b - 1) h (grind (arith, nat_tests, is)))

pub slice_get-hand_of : (w : WorldView) (b : ℕ) (h : Hand) → hand_of w b ≡ Some h
    → slice_get w.hands (b - 1) ≡ Some h
slice_get-hand_of w zero h is = cc
slice_get-hand_of w (suc b) h is = grind (arith, nat_tests, is)

-- the phase that was given to the key's row
pub phase_of-with_phase : (w : WorldView) (k : Key) (p x : Phase)
    → phase_of (with_phase w k p) k ≡ Some x → p ≡ x
phase_of-with_phase w k p x h = slice_get-set w.phases (number_of w.history.opening k) p x h

-- other rows keep theirs
pub phase_of-other : (w : WorldView) (k q : Key) (p : Phase) (row : Row)
    → row_of (rows_of w.history) q ≡ Some row → same_key q k ≡ false
    → phase_of (with_phase w k p) q ≡ phase_of w q
phase_of-other w k q p row found apart =
    slice_get-set-other w.phases (number_of w.history.opening k) (number_of w.history.opening q) p
    (place_of-apart (keys_of w.history.opening) k q (named-row_of w.history q ∙ ap is_some found)
    apart)
