-- How many flags are set.
use Rattle.std.proofs.Common.{◌≡◌, ◌<◌, ◌≤◌, ◌∷◌, [], ℕ, zero, suc, Bool, true, false, List, length}
use Rattle.std.proofs.Common.{cond, refl, arith}
use Rattle.std.proofs.lemmas.Bool.{false≢true}
use Rattle.std.proofs.lemmas.List.Sums.{sum_by-cons}
use Rattle.td_plan.specs.inner.Lists.{IsSet, count_set}

-- what a flag counts
abbrev one : Bool → ℕ
one flag = cond flag 1 0

one-up : (x y : Bool) → (x ≡ true → y ≡ true) → one x ≤ one y
one-up true true up = omega arith
one-up true false up = absurd (false≢true (up refl))
one-up false y up = omega arith

one-more : (x y : Bool) → ¬ (x ≡ true) → y ≡ true → one x < one y
one-more true y off on = absurd (off refl)
one-more false true off on = omega arith
one-more false false off on = absurd (false≢true on)

-- no fewer flags are set if each that was set still is
pub no-fewer : (xs ys : List Bool) → length xs ≡ length ys
    → ((n : ℕ) → IsSet xs n → IsSet ys n) → count_set xs ≤ count_set ys
no-fewer [] ys len up = omega arith
no-fewer (x ∷ xs) [] len up = absurd (omega (arith, len))
no-fewer (x ∷ xs) (y ∷ ys) len up = omega (
  arith,
  no-fewer xs ys (omega (arith, len)) (λ n. up (suc n)),
  one-up x y (up 0),
  sum_by-cons one x xs,
  sum_by-cons one y ys,
)

-- more flags are set if, besides, one is set that wasn't
pub more-set : (xs ys : List Bool) → length xs ≡ length ys
    → ((n : ℕ) → IsSet xs n → IsSet ys n) → (r : ℕ) → ¬ IsSet xs r → IsSet ys r
    → count_set xs < count_set ys
more-set xs [] len up r off on = absurd (false≢true on)
more-set [] (y ∷ ys) len up r off on = absurd (omega (arith, len))
more-set (x ∷ xs) (y ∷ ys) len up zero off on = omega (
  arith,
  no-fewer xs ys (omega (arith, len)) (λ n. up (suc n)),
  one-more x y off on,
  sum_by-cons one x xs,
  sum_by-cons one y ys,
)
more-set (x ∷ xs) (y ∷ ys) len up (suc r) off on = omega (
  arith,
  more-set xs ys (omega (arith, len)) (λ n. up (suc n)) r off on,
  one-up x y (up 0),
  sum_by-cons one x xs,
  sum_by-cons one y ys,
)
