-- A search over places.
use Rattle.std.proofs.Common.{◌≡◌, ℕ, zero, suc, ◌+◌, ◌<◌, Bool, true, false, ltb, List}
use Rattle.std.proofs.Common.{length, refl, sym, ap, ◌∙◌, inl, inr, add-one, arith}
use Rattle.std.proofs.lemmas.Bool.{lt-ltb}
use Rattle.std.proofs.lemmas.Bool.Decides.{eqb_tells}
use Rattle.std.proofs.Math.Bool.{or-true, and-false}
use Rattle.td_query.specs.Standing.{any_below, stands_at, stands_in}

-- a test that holds of no number below i, nor of i, holds of none below i + 1
pub below_next : (test : ℕ → Bool) (i : ℕ) → any_below test i ≡ false → test i ≡ false
    → any_below test (i + 1) ≡ false
unfolding any_below
below_next test i none here = rw (add-one, none) here

-- a test that holds of some i below n is found below n
pub below_found : (test : ℕ → Bool) (n i : ℕ) → i < n → test i ≡ true → any_below test n ≡ true
unfolding any_below
below_found test zero i h e = absurd (omega arith)
below_found test (suc n) i h e =
    elim (eqb_tells i n) [
      | inl is ↦ rw (sym (ap test is.1) ∙ e) (or-true (any_below test n))
      | inr other ↦ (let apart = other.1 in let less : i < n = omega arith in
          rw (below_found test n i less e) refl)
    ]

-- ---- the answers of the search

pub empty_never : (text value : List ℕ) → length text ≡ 0 → stands_in text value ≡ false
unfolding stands_in
empty_never text value e = rw e refl

pub found_at : (text value : List ℕ) (i : ℕ) → 0 < length text → i < length value
    → stands_at text value i ≡ true → stands_in text value ≡ true
unfolding stands_in
found_at text value i some h e =
    rw (lt-ltb 0 (length text) some) (below_found (stands_at text value) (length value) i h e)

pub found_nowhere : (text value : List ℕ) → any_below (stands_at text value) (length value) ≡ false
    → stands_in text value ≡ false
unfolding stands_in
found_nowhere text value e = rw e (and-false (ltb 0 (length text)))

pub none_yet : (test : ℕ → Bool) → any_below test 0 ≡ false
unfolding any_below
none_yet test = refl
