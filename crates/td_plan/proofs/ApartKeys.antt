-- Lists of which no two items have one key: an item is found by its key, and at its own place.
use Rattle.std.proofs.Common.{◌≡◌, ℕ, zero, suc, ◌+◌, ◌∙◌, not, Bool, true, false, List, [], ◌∷◌}
use Rattle.std.proofs.Common.{None, Some, slice_get, refl, sym, ap, subst, inl, inr, arith}
use Rattle.std.specs.List.{AllByRecursion, Contains, prefix_len}
use Rattle.std.proofs.lemmas.Bool.{cases_Bool, false≢true}
use Rattle.std.proofs.lemmas.Option.{get_or_from_slice_get, slice_get_within}
use Rattle.td_text.proofs.Chain.{some_is}
use Rattle.td_indices.specs.Counting.{Apart}
use Rattle.td_indices.proofs.OfferLaws.{has_cases}
use Rattle.td_plan.proofs.Existing.{none_has}

-- what holds of each item holds of one that is there
each-has : {X : Type 0} (P : X → Type 0) (xs : List X) (x : X) → AllByRecursion P xs
    → Contains xs x → P x
each-has P [] x all has = absurd (none_has x has)
each-has P (y ∷ ys) x all has = elim (has_cases y ys x has) [
  | inl same ↦ subst P same all.0
  | inr more ↦ each-has P ys x all.1 more
]

-- an item with a number is there
pub at-has : {X : Type 0} (xs : List X) (n : ℕ) (x : X) → slice_get xs n ≡ Some x → Contains xs x
at-has xs n x at = (n, slice_get_within xs n x at, get_or_from_slice_get xs n x x at)

module _ {X : Type 0} (same : X → X → Bool) (itself : (x : X) → same x x ≡ true)
    (back : (x y : X) → same x y ≡ true → same y x ≡ true) where
  -- two items of one key are one
  pub one-key : (xs : List X) (x y : X) → Apart same xs → Contains xs x → Contains xs y
      → same x y ≡ true → x ≡ y
  one-key [] x y apart left right is = absurd (none_has x left)
  one-key (z ∷ zs) x y apart left right is = elim (has_cases z zs x left) [
    | inl first ↦ elim (has_cases z zs y right) [
      | inl second ↦ sym first ∙ second
      | inr more ↦
          let other = each-has (λ w. same z w ≡ false) zs y apart.0 more in
          absurd (false≢true (sym other ∙ ap (λ w. same w y) first ∙ is))
    ]
    | inr later ↦ elim (has_cases z zs y right) [
      | inl second ↦
          let other = each-has (λ w. same z w ≡ false) zs x apart.0 later in
          absurd (false≢true (sym other ∙ ap (λ w. same w x) second ∙ back x y is))
      | inr more ↦ one-key zs x y apart.1 later more is
    ]
  ]

  turned : (x y : X) → same x y ≡ false → same y x ≡ false
  turned x y other = elim (cases_Bool (same y x)) [
    | inl bad ↦ absurd (false≢true (sym other ∙ back y x bad))
    | inr fine ↦ fine
  ]

  -- an item is the first of its key
  pub own-place : (xs : List X) (n : ℕ) (x : X) → Apart same xs → slice_get xs n ≡ Some x
      → prefix_len (λ y. not (same x y)) xs ≡ n
  own-place [] n x apart at = absurd (let bad : None ≡ Some x = at in cc)
  own-place (y ∷ ys) zero x apart at =
      let passes : same x y ≡ true = ap (same x) (some_is y x at) ∙ itself x in
      rw passes refl
  own-place (y ∷ ys) (suc n) x apart at =
      let other : same x y ≡ false =
      turned y x (each-has (λ w. same y w ≡ false) ys x apart.0 (at-has ys n x at)) in
      let later = own-place ys n x apart.1 at in
      rw other (let e : 1 + prefix_len (λ z. not (same x z)) ys ≡ suc n = omega arith in e)
