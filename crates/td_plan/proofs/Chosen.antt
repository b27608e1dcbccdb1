-- What a filter keeps, an order has, and a search finds.
use Rattle.std.proofs.Common.{◌≡◌, ℕ, Bool, true, false, List, [], ◌∷◌, length}
use Rattle.std.proofs.Common.{Some, None, nat_lt, refl, sym, ap, subst, ◌∙◌, inl, inr, arith}
use Rattle.std.specs.Prelude.{filter, map, slice_get}
use Rattle.std.specs.List.{Contains, find, list_any, position, position_or_len}
use Rattle.std.specs.List.Sorted.{IsPermutation}
use Rattle.std.proofs.lemmas.Bool.{cases_Bool, cond-false, cond-true, lt-ltb}
use Rattle.std.proofs.lemmas.List.Folds.{find_at}
use Rattle.std.proofs.lemmas.List.Sorted.{Contains-permutation, IsPermutation-cons}
use Rattle.std.proofs.lemmas.List.Sorted.{IsPermutation-middle, IsPermutation-refl}
use Rattle.std.proofs.lemmas.List.Sorted.{IsPermutation-sym, IsPermutation-trans}
use Rattle.std.proofs.lemmas.Option.{slice_get_within}
use Rattle.td_text.proofs.Chain.{some_is}
use Rattle.td_indices.proofs.OfferLaws.{has_cases, has_first, has_more}
use Rattle.td_plan.specs.InOrder.{in_order, put_in}

-- ---- tests of lists

-- some item passes a test if any does: this one
pub any-found : {A : Type 0} (test : A → Bool) (xs : List A) → list_any test xs ≡ true
    → (x : A) × Contains xs x × (test x ≡ true)
any-found test [] h = absurd (let bad : false ≡ true = h in cc)
any-found test (x ∷ xs) h = elim (cases_Bool (test x)) [
  | inl is ↦ (x, has_first x xs, is)
  | inr other ↦
      let r = any-found test xs (sym (rw other refl) ∙ h) in
      (r.0, has_more x xs r.0 r.1, r.2)
]

pub any-again : {A : Type 0} (test : A → Bool) (xs : List A) (x : A) → Contains xs x
    → test x ≡ true → list_any test xs ≡ true
any-again test [] x h is = let low = h.1 in absurd (omega arith)
any-again test (y ∷ xs) x h is = elim (has_cases y xs x h) [
  | inl same ↦ rw (ap test same ∙ is) refl
  | inr more ↦ elim (cases_Bool (test y)) [
    | inl first ↦ rw first refl
    | inr other ↦ rw other (any-again test xs x more is)
  ]
]

-- ---- what a filter keeps

pub filter-found : {A : Type 0} (test : A → Bool) (xs : List A) (x : A)
    → Contains (filter test xs) x → Contains xs x × (test x ≡ true)
filter-found test [] x h = let low = h.1 in absurd (omega arith)
filter-found {A} test (y ∷ xs) x h =
    let without = filter test xs in
    let kept = λ (is : test y ≡ true).
    subst (λ (l : List A). Contains l x) (cond-true (test y) (y ∷ without) without is) h in
    let left = λ (is : test y ≡ false).
    subst (λ (l : List A). Contains l x) (cond-false (test y) (y ∷ without) without is) h in
    elim (cases_Bool (test y)) [
      | inl is ↦ elim (has_cases y without x (kept is)) [
        | inl same ↦ (subst (Contains (y ∷ xs)) same (has_first y xs), ap test (sym same) ∙ is)
        | inr more ↦
            let r = filter-found test xs x more in
            (has_more y xs x r.0, r.1)
      ]
      | inr other ↦
          let r = filter-found test xs x (left other) in
          (has_more y xs x r.0, r.1)
    ]

pub filter-again : {A : Type 0} (test : A → Bool) (xs : List A) (x : A) → Contains xs x
    → test x ≡ true → Contains (filter test xs) x
filter-again test [] x h is = let low = h.1 in absurd (omega arith)
filter-again {A} test (y ∷ xs) x h is =
    let without = filter test xs in
    let keeps = λ (passes : test y ≡ true) (here : Contains (y ∷ without) x).
    subst (λ (l : List A). Contains l x)
    (sym (cond-true (test y) (y ∷ without) without passes)) here in
    elim (has_cases y xs x h) [
      | inl same ↦ keeps (ap test same ∙ is) (subst (Contains (y ∷ without)) same
          (has_first y without))
      | inr more ↦ elim (cases_Bool (test y)) [
        | inl passes ↦ keeps passes (has_more y without x (filter-again test xs x more is))
        | inr other ↦ subst (λ (l : List A). Contains l x)
            (sym (cond-false (test y) (y ∷ without) without other))
            (filter-again test xs x more is)
      ]
    ]

-- ---- what a map makes

pub map-found : {A B : Type 0} (f : A → B) (xs : List A) (y : B) → Contains (map f xs) y
    → (x : A) × Contains xs x × (f x ≡ y)
map-found f [] y h = let low = h.1 in absurd (omega arith)
map-found f (x ∷ xs) y h = elim (has_cases (f x) (map f xs) y h) [
  | inl same ↦ (x, has_first x xs, same)
  | inr more ↦
      let r = map-found f xs y more in
      (r.0, has_more x xs r.0 r.1, r.2)
]

pub map-again : {A B : Type 0} (f : A → B) (xs : List A) (x : A) → Contains xs x
    → Contains (map f xs) (f x)
map-again f [] x h = let low = h.1 in absurd (omega arith)
map-again f (y ∷ xs) x h = elim (has_cases y xs x h) [
  | inl same ↦ subst (Contains (f y ∷ map f xs)) (ap f same) (has_first (f y) (map f xs))
  | inr more ↦ has_more (f y) (map f xs) (f x) (map-again f xs x more)
]

-- ---- what a search finds

pub find-has : {A : Type 0} (test : A → Bool) (xs : List A) (x : A) → find test xs ≡ Some x
    → Contains xs x × (test x ≡ true)
find-has test [] x h = absurd (let bad : None ≡ Some x = h in cc)
find-has test (y ∷ xs) x h = elim (cases_Bool (test y)) [
  | inl is ↦
      let same : y ≡ x = some_is y x (sym (cond-true (test y) (Some y) (find test xs) is) ∙ h) in
      (subst (Contains (y ∷ xs)) same (has_first y xs), ap test (sym same) ∙ is)
  | inr other ↦
      let r = find-has test xs x (sym (cond-false (test y) (Some y) (find test xs) other) ∙ h) in
      (has_more y xs x r.0, r.1)
]

-- what is found has the number that is found
pub find-numbered : {A : Type 0} (test : A → Bool) (xs : List A) (x : A) → find test xs ≡ Some x
    → (n : ℕ) × (position test xs ≡ Some n) × (slice_get xs n ≡ Some x)
find-numbered test xs x h =
    let n = position_or_len test xs in
    let at : slice_get xs n ≡ Some x = sym (find_at test xs) ∙ h in (
      n,
      cond-true (nat_lt n (length xs)) (Some n) None
          (lt-ltb n (length xs) (slice_get_within xs n x at)),
      at,
    )

-- ---- what is in an order

pub put_in-permutes : {A : Type 0} (before : A → A → Bool) (x : A) (ys : List A)
    → IsPermutation (x ∷ ys) (put_in before x ys)
unfolding put_in
put_in-permutes before x [] = IsPermutation-refl (x ∷ [])
put_in-permutes before x (y ∷ ys) = elim (cases_Bool (before x y)) [
  | inl is ↦ rw is (IsPermutation-refl (x ∷ (y ∷ ys)))
  | inr other ↦ rw other (IsPermutation-trans (x ∷ (y ∷ ys)) (y ∷ (x ∷ ys)) (y ∷ put_in before x ys)
      (IsPermutation-middle (x ∷ []) y ys)
      (IsPermutation-cons y (x ∷ ys) (put_in before x ys) (put_in-permutes before x ys)))
]

pub in_order-permutes : {A : Type 0} (before : A → A → Bool) (xs : List A)
    → IsPermutation xs (in_order before xs)
unfolding in_order
in_order-permutes before [] = IsPermutation-refl []
in_order-permutes before (x ∷ xs) = IsPermutation-trans (x ∷ xs) (x ∷ in_order before xs)
    (put_in before x (in_order before xs))
    (IsPermutation-cons x xs (in_order before xs) (in_order-permutes before xs))
    (put_in-permutes before x (in_order before xs))

pub in_order-found : {A : Type 0} (before : A → A → Bool) (xs : List A) (x : A)
    → Contains (in_order before xs) x → Contains xs x
in_order-found before xs x h = Contains-permutation (in_order before xs) xs x
    (IsPermutation-sym xs (in_order before xs) (in_order-permutes before xs)) h

pub in_order-again : {A : Type 0} (before : A → A → Bool) (xs : List A) (x : A) → Contains xs x
    → Contains (in_order before xs) x
in_order-again before xs x h =
    Contains-permutation xs (in_order before xs) x (in_order-permutes before xs) h
