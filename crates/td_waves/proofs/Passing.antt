-- Whether some item of a list passes a test, and which is the first.
use Rattle.std.proofs.Common.{◌≡◌, ◌<◌, ◌+◌, ◌==◌, ◌||◌, ◌&&◌, ℕ, zero, suc, Bool, true, false}
use Rattle.std.proofs.Common.{cond, List, [], ◌∷◌, Some, None, length}
use Rattle.std.proofs.Common.{get_or, slice_get, nat_lt, refl, sym, ap, ◌∙◌, inl, inr}
use Rattle.std.proofs.Common.{arith}
use Rattle.std.specs.List.{list_any, position, position_from, Contains}
use Rattle.std.proofs.Math.Bool.{or-false}
use Rattle.std.proofs.lemmas.Bool.{cases_Bool, cases_lt, lt-ltb, le-ltb, eq-eqb, false≢true}
use Rattle.std.proofs.lemmas.Bool.{or_parts}
use Rattle.std.proofs.lemmas.Bool.Decides.{eqb_tells}
use Rattle.std.proofs.lemmas.Iterator.Adapters.{position_from-zero}

pub any-none : {A : Type 0} (f : A → Bool) (xs : List A) → ((x : A) → f x ≡ false)
    → list_any f xs ≡ false
any-none f [] e = refl
any-none f (x ∷ xs) e = ap (λ b. b || list_any f xs) (e x) ∙ any-none f xs e

pub any-under : {A : Type 0} (c : Bool) (f : A → Bool) (xs : List A)
    → list_any (λ x. c && f x) xs ≡ (c && list_any f xs)
any-under true f xs = refl
any-under false f xs = any-none (λ x. false) xs (λ x. refl)

-- ---- the first that passes

behind_none : (b c : Bool) → b ≡ false → (b || c) ≡ true → c ≡ true
behind_none true c e h = absurd (false≢true (sym e))
behind_none false c e h = h

before_none : (b c : Bool) → b ≡ true → (b || c) ≡ false → ⊥
before_none true c e h = false≢true (sym h)
before_none false c e h = false≢true e

-- of two, the one that a test that fails leaves
left : {A : Type 0} (b : Bool) (x y z : A) → b ≡ false → y ≡ z → cond b x y ≡ z
left true x y z e h = absurd (false≢true (sym e))
left false x y z e h = h

taken : {A : Type 0} (b : Bool) (x y z : A) → b ≡ true → x ≡ z → cond b x y ≡ z
taken true x y z e h = h
taken false x y z e h = absurd (false≢true e)

-- the item with a number, and that it passes
pub record Passes {A : Type 0} (t : A → Bool) (xs : List A) (i : ℕ) : Type 0 where
  pub item : A
  pub there : slice_get xs i ≡ Some item
  pub passes : t item ≡ true

from_some : {A : Type 0} (t : A → Bool) (n : ℕ) (xs : List A) → list_any t xs ≡ true
    → (i : ℕ) × (position_from t n xs ≡ Some (n + i)) × (i < length xs) × Passes t xs i
from_some t n [] h = absurd (false≢true h)
from_some t n (x ∷ xs) h = elim (cases_Bool (t x)) [
  | inl is ↦
      let here : n ≡ n + 0 = omega arith in (
        0,
        taken (t x) (Some n) (position_from t (n + 1) xs) (Some (n + 0)) is (ap Some here),
        omega arith,
        record { item = x; there = refl; passes = is },
      )
  | inr other ↦
      let r = from_some t (n + 1) xs (behind_none (t x) (list_any t xs) other h) in
      let there : n + 1 + r.0 ≡ n + suc r.0 = omega arith in (
        suc r.0,
        left (t x) (Some n) (position_from t (n + 1) xs) (Some (n + suc r.0)) other
            (r.1 ∙ ap Some there),
        omega (arith, r.2),
        record { item = r.3.item; there = r.3.there; passes = r.3.passes },
      )
]

from_none : {A : Type 0} (t : A → Bool) (n : ℕ) (xs : List A) → list_any t xs ≡ false
    → position_from t n xs ≡ None
from_none t n [] h = refl
from_none t n (x ∷ xs) h = elim (cases_Bool (t x)) [
  | inl is ↦ absurd (before_none (t x) (list_any t xs) is h)
  | inr other ↦ left (t x) (Some n) (position_from t (n + 1) xs) None other
      (from_none t (n + 1) xs (or_parts (t x) (list_any t xs) h).1)
]

pub first_place : {A : Type 0} (t : A → Bool) (xs : List A) → list_any t xs ≡ true
    → (i : ℕ) × (position t xs ≡ Some i) × (i < length xs) × Passes t xs i
first_place t xs h =
    let r = from_some t 0 xs h in
    let it : 0 + r.0 ≡ r.0 = omega arith in
    (r.0, position_from-zero t xs ∙ r.1 ∙ ap Some it, r.2, r.3)

pub no_place : {A : Type 0} (t : A → Bool) (xs : List A) → list_any t xs ≡ false
    → position t xs ≡ None
no_place t xs h = position_from-zero t xs ∙ from_none t 0 xs h

-- one item settles it
pub any-at : {A : Type 0} (t : A → Bool) (xs : List A) (i : ℕ) (d : A) → i < length xs
    → t (get_or xs i d) ≡ true → list_any t xs ≡ true
any-at t [] i d lt h = absurd (omega arith)
any-at t (x ∷ xs) zero d lt h = rw h refl
any-at t (x ∷ xs) (suc i) d lt h = elim (cases_Bool (t x)) [
  | inl is ↦ rw is refl
  | inr other ↦ rw other (any-at t xs i d (omega arith) h)
]

-- ---- numbers in a list

pub has-Contains : (xs : List ℕ) (y : ℕ) → list_any (λ x. x == y) xs ≡ true → Contains xs y
has-Contains [] y h = absurd (false≢true h)
has-Contains (x ∷ xs) y h = elim (eqb_tells x y) [
  | inl p ↦ (0, omega arith, p.1)
  | inr p ↦
      let rest = has-Contains xs y (behind_none (x == y) (list_any (λ z. z == y) xs) p.0 h) in
      (suc rest.0, omega (arith, rest.1), rest.2)
]

pub Contains-has : (xs : List ℕ) (y : ℕ) → Contains xs y → list_any (λ x. x == y) xs ≡ true
Contains-has xs y h = any-at (λ x. x == y) xs h.0 y h.1 (ap (λ x. x == y) h.2 ∙ eq-eqb y y refl)

-- ---- at the next number

pub next_below : (t n : ℕ) (here : ℕ → Bool)
    → ((nat_lt t n && here t) || ((n == t) && here n)) ≡ (nat_lt t (n + 1) && here t)
next_below t n here = elim (eqb_tells n t) [
  | inl p ↦ rw (p.0, le-ltb t n (omega (arith, p.1)), lt-ltb t (n + 1) (omega (arith, p.1)))
      (ap here p.1)
  | inr p ↦ elim (cases_lt t n) [
    | inl lt ↦ rw (p.0, lt-ltb t n lt, lt-ltb t (n + 1) (omega arith)) (or-false (here t))
    | inr le ↦ rw (p.0, le-ltb t n le, le-ltb t (n + 1) (omega (arith, p.1))) refl
  ]
]
