-- What a sort leaves, if one of two items is always before the other.
use Rattle.std.proofs.Common.{◌≡◌, ◌⊎◌, ℕ, zero, suc, ◌<◌, ◌≤◌, ◌&&◌, not, Bool, true, false}
use Rattle.std.proofs.Common.{cond, List, [], ◌∷◌, get_or, map, Option, Some, None, refl}
use Rattle.std.proofs.Common.{sym}
use Rattle.std.proofs.Common.{ap, ◌∙◌, inl, inr, arith}
use Rattle.std.specs.Prelude.{slice_get}
use Rattle.std.specs.Cmp.{IsStrictWeakOrder}
use Rattle.std.specs.List.{Contains, cons_option, count_by, filter_map}
use Rattle.std.specs.List.Sorted.{IsPermutation, IsSortedBy}
use Rattle.std.proofs.lemmas.Bool.{and_from, and_parts, cases_Bool, false≢true, not-true}
use Rattle.std.proofs.lemmas.Bool.{not_from_false, true_from_ne_false}
use Rattle.std.proofs.lemmas.List.Sorted.{sorted_far, sum_by-IsPermutation}
use Rattle.std.proofs.lemmas.List.Sums.{sum_by-cons}
use Rattle.std.proofs.lemmas.Option.{get_or_from_slice_get, slice_get_within}
use Rattle.td_indices.proofs.OfferLaws.{has_first, has_more}
use Rattle.td_plan.proofs.Chosen.{map-again}
use Rattle.td_plan.proofs.Picked.{picked-found}
use Rattle.td_plan.proofs.Rising.{AnyWay, Rising, rising-from}

module _ {A : Type 0} (test : A → Bool) where
  abbrev one : A → ℕ
  one x = cond (test x) 1 0

  none-counted : (xs : List A) → ((x : A) → Contains xs x → test x ≡ false)
      → count_by test xs ≡ 0
  none-counted [] none = refl
  none-counted (x ∷ xs) none =
      let here : one x ≡ 0 = ap (λ (b : Bool). cond b 1 0) (none x (has_first x xs)) in
      omega (
        arith,
        sum_by-cons one x xs,
        here,
        none-counted xs (λ y has. none y (has_more x xs y has)),
      )

  one-counted : (xs : List A) (k : ℕ) (x : A) → slice_get xs k ≡ Some x → test x ≡ true
      → 0 < count_by test xs
  one-counted [] k x at is = absurd (cc)
  one-counted (y ∷ ys) zero x at is =
      let same : y ≡ x = cc in
      let here : one y ≡ 1 = ap (λ (b : Bool). cond b 1 0) (ap test same ∙ is) in
      omega (arith, sum_by-cons one y ys, here)
  one-counted (y ∷ ys) (suc k) x at is =
      omega (arith, sum_by-cons one y ys, one-counted ys k x at is)

  two-counted : (xs : List A) (j k : ℕ) (x y : A) → j < k → slice_get xs j ≡ Some x
      → slice_get xs k ≡ Some y → test x ≡ true → test y ≡ true → 1 < count_by test xs
  two-counted [] j k x y low left right is also = absurd (cc)
  two-counted (z ∷ zs) zero zero x y low left right is also = absurd (omega arith)
  two-counted (z ∷ zs) zero (suc k) x y low left right is also =
      let same : z ≡ x = cc in
      let here : one z ≡ 1 = ap (λ (b : Bool). cond b 1 0) (ap test same ∙ is) in
      omega (arith, sum_by-cons one z zs, here, one-counted zs k y right also)
  two-counted (z ∷ zs) (suc j) zero x y low left right is also = absurd (omega arith)
  two-counted (z ∷ zs) (suc j) (suc k) x y low left right is also =
      omega (
        arith,
        sum_by-cons one z zs,
        two-counted zs j k x y (omega arith) left right is also,
      )

module _ {A : Type 0} (lt : A → A → Bool) (o : IsStrictWeakOrder lt) where
  -- none of two is before the other
  abbrev tie : A → A → Bool
  tie x y = not (lt x y) && not (lt y x)

  itself : (x : A) → lt x x ≡ false
  itself x = elim (cases_Bool (lt x x)) [
    | inl is ↦ o.one_way x x is
    | inr other ↦ other
  ]

  tied : (x y : A) → tie x y ≡ true → (lt x y ≡ false) × (lt y x ≡ false)
  tied x y is =
      let both = and_parts (not (lt x y)) (not (lt y x)) is in
      (not-true (lt x y) both.0, not-true (lt y x) both.1)

  ties : (x y : A) → lt x y ≡ false → lt y x ≡ false → tie x y ≡ true
  ties x y up down = and_from (not (lt x y)) (not (lt y x)) (not_from_false (lt x y) up)
      (not_from_false (lt y x) down)

  at-most-once : (xs : List A) → AnyWay lt xs → (z : A) → count_by (tie z) xs ≤ 1
  at-most-once [] way z = omega arith
  at-most-once (x ∷ xs) way z = elim (cases_Bool (tie z x)) [
    | inl is ↦
        let mine = tied z x is in
        let rest : count_by (tie z) xs ≡ 0 = none-counted (tie z) xs (λ y has.
        elim (cases_Bool (tie z y)) [
          | inl also ↦
              let its = tied z y also in
              absurd (elim (way.0 y has) [
                | inl low ↦ false≢true (sym (o.chain x z y mine.1 its.0) ∙ low)
                | inr back ↦ false≢true (sym (o.chain y z x its.1 mine.0) ∙ back)
              ])
          | inr other ↦ other
        ]) in
        let here : one (tie z) x ≡ 1 = ap (λ (b : Bool). cond b 1 0) is in
        omega (arith, sum_by-cons (one (tie z)) x xs, here, rest)
    | inr other ↦
        let here : one (tie z) x ≡ 0 = ap (λ (b : Bool). cond b 1 0) other in
        omega (arith, sum_by-cons (one (tie z)) x xs, here, at-most-once xs way.1 z)
  ]

  -- what was sorted rises
  pub sorted-rises : (xs ys : List A) → AnyWay lt xs → IsPermutation xs ys → IsSortedBy lt ys
      → Rising lt ys
  sorted-rises xs ys way moved sorted = rising-from lt ys (λ j k x y low left right.
      true_from_ne_false (lt x y) (λ up.
      let down : lt y x ≡ false =
      ap (λ (z : A). lt y z) (sym (get_or_from_slice_get ys j x x left))
      ∙ ap (λ (z : A). lt z (get_or ys j x)) (sym (get_or_from_slice_get ys k y x right))
      ∙ sorted_far lt o ys sorted j k x (omega arith) (slice_get_within ys k y right) in
      let two : 1 < count_by (tie x) ys =
      two-counted (tie x) ys j k x y low left right (ties x x (itself x) (itself x))
      (ties x y up down) in
      let same : count_by (tie x) ys ≡ count_by (tie x) xs =
      sum_by-IsPermutation (one (tie x)) xs ys moved in
      omega (arith, two, same, at-most-once xs way x)))

-- what rises has an order
pub rising-any : {A : Type 0} (lt : A → A → Bool) (xs : List A) → Rising lt xs → AnyWay lt xs
rising-any lt [] rises = tt
rising-any lt (x ∷ xs) rises = ((λ y has. inl (rises.0 y has)), rising-any lt xs rises.1)

pub any-way-unmap : {A B : Type 0} (lt : B → B → Bool) (f : A → B) (xs : List A)
    → AnyWay lt (map f xs) → AnyWay (λ x y. lt (f x) (f y)) xs
any-way-unmap lt f [] way = tt
any-way-unmap lt f (x ∷ xs) way = (
  (λ y has. way.0 (f y) (map-again f xs y has)),
  any-way-unmap lt f xs way.1,
)

-- what is picked of items with an order has an order
pub any-way-picked : {A B : Type 0} (lt : A → A → Bool) (other : B → B → Bool) (f : A → Option B)
    (xs : List A) → ((x y : A) (v w : B) → (lt x y ≡ true) ⊎ (lt y x ≡ true) → f x ≡ Some v
    → f y ≡ Some w → (other v w ≡ true) ⊎ (other w v ≡ true))
    → AnyWay lt xs → AnyWay other (filter_map f xs)
any-way-picked lt other f [] h way = tt
any-way-picked {A} {B} lt other f (x ∷ xs) h way =
    by (f x) refl (any-way-picked lt other f xs h way.1)
  where
    by : (o : Option B) → f x ≡ o → AnyWay other (filter_map f xs)
        → AnyWay other (cons_option o (filter_map f xs))
    by None is rest = rest
    by (Some v) is rest = (
      (λ w has. let from = picked-found f xs w has in
          h x from.0 v w (way.0 from.0 from.1) is from.2),
      rest,
    )
