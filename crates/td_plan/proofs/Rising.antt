-- Lists in which each item is before all later ones: such lists with the same items are one.
use Rattle.std.proofs.Common.{◌≡◌, ◌⊎◌, ℕ, suc, ◌<◌, Bool, true, List, [], ◌∷◌, Some, refl}
use Rattle.std.proofs.Common.{sym, ap, subst, ◌∙◌, inl, inr, map, arith}
use Rattle.std.specs.Prelude.{filter, slice_get}
use Rattle.std.specs.Cmp.Lexicographic.{slice_cmp}
use Rattle.std.specs.List.{Contains}
use Rattle.std.specs.Ordering.{is_lt, nat_cmp}
use Rattle.std.specs.declared.cmp.Ordering.{Ordering}
use Rattle.std.specs.declared.cmp.Ordering.TheVariants.{Less, Equal, Greater}
use Rattle.std.proofs.lemmas.Bool.{cases_Bool, cond_both, false≢true}
use Rattle.std.proofs.lemmas.Cmp.{nat_list_cmp_total}
use Rattle.std.proofs.lemmas.List.Sorted.{Contains-permutation, IsPermutation-sym}
use Rattle.td_indices.proofs.OfferLaws.{has_cases, has_first, has_more}
use Rattle.td_plan.specs.InOrder.{in_order, is_before, put_in}
use Rattle.td_plan.proofs.Chosen.{in_order-found, map-found, put_in-permutes}
use Rattle.td_plan.proofs.Existing.{has-filter, none_has}
use Rattle.td_plan.proofs.InOrders.{before-back}
use Rattle.td_plan.proofs.Picked.{has-numbered}
use Rattle.td_plan.proofs.PlacingsAlike.{same-by-order}

-- ---- 1. such lists

module _ {A : Type 0} (before : A → A → Bool) where
  -- each item is before all later ones
  abbrev pub Rising : List A → Type 0
  Rising [] = Unit {0}
  Rising (x ∷ xs) = ((y : A) → Contains xs y → before x y ≡ true) × Rising xs

  -- no two items are each before the other
  abbrev pub IsOneWay : List A → Type 0
  IsOneWay xs = (x y : A) → Contains xs x → before x y ≡ true → before y x ≡ true → ⊥

  pub rising-same : (xs ys : List A) → IsOneWay xs → Rising xs → Rising ys
      → ((z : A) → Contains xs z → Contains ys z) → ((z : A) → Contains ys z → Contains xs z)
      → xs ≡ ys
  rising-same [] [] one left right there back = refl
  rising-same [] (y ∷ ys) one left right there back =
      absurd (none_has y (back y (has_first y ys)))
  rising-same (x ∷ xs) [] one left right there back =
      absurd (none_has x (there x (has_first x xs)))
  rising-same (x ∷ xs) (y ∷ ys) one left right there back =
      let first : x ≡ y = elim (has_cases y ys x (there x (has_first x xs))) [
        | inl same ↦ sym same
        | inr later ↦ elim (has_cases x xs y (back y (has_first y ys))) [
          | inl same ↦ same
          | inr behind ↦ absurd (one x y (has_first x xs) (left.0 y behind) (right.0 x later))
        ]
      ] in
      let rest : xs ≡ ys = rising-same xs ys (λ a b has. one a b (has_more x xs a has)) left.1
      right.1
      (λ z has. elim (has_cases y ys z (there z (has_more x xs z has))) [
        | inl same ↦
            let own : before x x ≡ true =
            subst (λ w. before x w ≡ true) (sym same ∙ sym first) (left.0 z has) in
            absurd (one x x (has_first x xs) own own)
        | inr mine ↦ mine
      ])
      (λ z has. elim (has_cases x xs z (back z (has_more y ys z has))) [
        | inl same ↦
            let own : before x x ≡ true =
            subst (λ w. before w x ≡ true) (sym first)
            (subst (λ w. before y w ≡ true) (sym same) (right.0 z has)) in
            absurd (one x x (has_first x xs) own own)
        | inr mine ↦ mine
      ]) in
      ap (λ w. w ∷ xs) first ∙ ap (λ l. y ∷ l) rest

  pub rising-filter : (test : A → Bool) (xs : List A) → Rising xs → Rising (filter test xs)
  rising-filter test [] rises = tt
  rising-filter test (x ∷ xs) rises =
      cond_both (test x) (x ∷ filter test xs) (filter test xs) Rising
      (λ passes. (
        (λ y has. rises.0 y (has-filter test xs y has).0),
        rising-filter test xs rises.1,
      ))
      (λ fails. rising-filter test xs rises.1)

  -- ---- what is put in order rises

  -- one of two items at different places is before the other
  abbrev pub AnyWay : List A → Type 0
  AnyWay [] = Unit {0}
  AnyWay (x ∷ xs) = ((y : A) → Contains xs y → (before x y ≡ true) ⊎ (before y x ≡ true))
      × AnyWay xs

  pub any-way-filter : (test : A → Bool) (xs : List A) → AnyWay xs → AnyWay (filter test xs)
  any-way-filter test [] way = tt
  any-way-filter test (x ∷ xs) way =
      cond_both (test x) (x ∷ filter test xs) (filter test xs) AnyWay
      (λ passes. (
        (λ y has. way.0 y (has-filter test xs y has).0),
        any-way-filter test xs way.1,
      ))
      (λ fails. any-way-filter test xs way.1)

  module _ (trans : (x y z : A) → before x y ≡ true → before y z ≡ true → before x z ≡ true)
    where
      put-rises : (x : A) (ys : List A)
          → ((y : A) → Contains ys y → (before x y ≡ true) ⊎ (before y x ≡ true)) → Rising ys
          → Rising (put_in before x ys)
      unfolding put_in
      put-rises x [] way rises = ((λ y has. absurd (none_has y has)), tt)
      put-rises x (y ∷ ys) way rises =
          cond_both (before x y) (x ∷ (y ∷ ys)) (y ∷ put_in before x ys) Rising
          (λ low. (
            (λ z has. elim (has_cases y ys z has) [
              | inl same ↦ subst (λ w. before x w ≡ true) same low
              | inr later ↦ trans x y z low (rises.0 z later)
            ]),
            rises,
          ))
          (λ high.
          let back : before y x ≡ true = elim (way y (has_first y ys)) [
            | inl low ↦ absurd (false≢true (sym high ∙ low))
            | inr back ↦ back
          ] in (
            (λ z has. elim (has_cases x ys z (Contains-permutation (put_in before x ys)
                (x ∷ ys) z (IsPermutation-sym (x ∷ ys) (put_in before x ys)
                (put_in-permutes before x ys)) has)) [
                  | inl same ↦ subst (λ w. before y w ≡ true) same back
                  | inr later ↦ rises.0 z later
                ]),
            put-rises x ys (λ z has. way z (has_more y ys z has)) rises.1,
          ))

      pub order-rises : (xs : List A) → AnyWay xs → Rising (in_order before xs)
      unfolding in_order
      order-rises [] way = tt
      order-rises (x ∷ xs) way =
          put-rises x (in_order before xs)
          (λ y has. way.0 y (in_order-found before xs y has)) (order-rises xs way.1)

-- a list rises if each of its items is before all later ones, by their numbers
pub rising-from : {A : Type 0} (before : A → A → Bool) (xs : List A)
    → ((j k : ℕ) (x y : A) → j < k → slice_get xs j ≡ Some x → slice_get xs k ≡ Some y
    → before x y ≡ true) → Rising before xs
rising-from before [] h = tt
rising-from before (x ∷ xs) h = (
  (λ y has. let at = has-numbered xs y has in h 0 (suc at.0) x y (omega arith) refl at.1),
  rising-from before xs (λ j k y z low left right.
      h (suc j) (suc k) y z (omega arith) left right),
)

pub any-way-from : {A : Type 0} (before : A → A → Bool) (xs : List A)
    → ((j k : ℕ) (x y : A) → j < k → slice_get xs j ≡ Some x → slice_get xs k ≡ Some y
    → (before x y ≡ true) ⊎ (before y x ≡ true)) → AnyWay before xs
any-way-from before [] h = tt
any-way-from before (x ∷ xs) h = (
  (λ y has. let at = has-numbered xs y has in h 0 (suc at.0) x y (omega arith) refl at.1),
  any-way-from before xs (λ j k y z low left right.
      h (suc j) (suc k) y z (omega arith) left right),
)

-- what things are made of rises as the things do
pub rising-map : {A B : Type 0} (before : B → B → Bool) (f : A → B) (xs : List A)
    → Rising (λ x y. before (f x) (f y)) xs → Rising before (map f xs)
rising-map before f [] rises = tt
rising-map before f (x ∷ xs) rises = (
  (λ y has.
      let of = map-found f xs y has in
      subst (λ w. before (f x) w ≡ true) of.2 (rises.0 of.0 of.1)),
  rising-map before f xs rises.1,
)

-- ---- 2. the order of texts

is-less : (o : Ordering) → is_lt o ≡ true → o ≡ Less
is-less Less low = refl
is-less Equal low = absurd (false≢true low)
is-less Greater low = absurd (false≢true low)

pub before-trans : (a b c : List ℕ) → is_before a b ≡ true → is_before b c ≡ true
    → is_before a c ≡ true
before-trans a b c low next = ap is_lt (nat_list_cmp_total.trans a b c
    (is-less (slice_cmp nat_cmp a b) low) (is-less (slice_cmp nat_cmp b c) next))

pub before-once : (a b : List ℕ) → is_before a b ≡ true → is_before b a ≡ true → ⊥
before-once a b low back = false≢true (sym (before-back a b low) ∙ back)

pub before-any : (a b : List ℕ) → ¬ (a ≡ b)
    → (is_before a b ≡ true) ⊎ (is_before b a ≡ true)
before-any a b apart = elim (cases_Bool (is_before a b)) [
  | inl low ↦ inl low
  | inr up ↦ elim (cases_Bool (is_before b a)) [
    | inl back ↦ inr back
    | inr down ↦ absurd (apart (same-by-order a b up down))
  ]
]
