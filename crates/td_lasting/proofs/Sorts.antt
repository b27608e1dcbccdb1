-- Two lists of the same items in the same order are the same, where items that tie are the same.
use Rattle.std.proofs.Common.{◌≡◌, ℕ, suc, ◌+◌, ◌<◌, Bool, true, false, cond, List}
use Rattle.std.proofs.Common.{[]}
use Rattle.std.proofs.Common.{◌∷◌, refl, sym, ap, subst, ◌∙◌, arith}
use Rattle.std.specs.Prelude.{slice_index_or}
use Rattle.std.specs.Cmp.{IsStrictWeakOrder, IsTotalOrder}
use Rattle.std.specs.List.{AllByRecursion, count_by}
use Rattle.std.specs.List.Sorted.{IsPermutation, IsSortedBy}
use Rattle.std.specs.Ordering.{is_eq, is_lt, ordering_reverse}
use Rattle.std.specs.declared.cmp.Ordering.{Ordering}
use Rattle.std.specs.declared.cmp.Ordering.TheVariants.{Less, Equal, Greater}
use Rattle.std.proofs.lemmas.Cmp.{tied_itself}
use Rattle.std.proofs.lemmas.List.Elements.{recursion_from_All}
use Rattle.std.proofs.lemmas.List.Sorted.{ranks_by, sorted_far, sum_by-IsPermutation}
use Rattle.std.proofs.lemmas.List.Sums.{sum_by-cons}

module _ {A : Type 0} {R : A → A → Ordering} (o : IsTotalOrder R)
    (same : (x y : A) → R x y ≡ Equal → x ≡ y) where
  abbrev lt : A → A → Bool
  lt x y = is_lt (R x y)

  abbrev eq : A → A → Bool
  eq x y = is_eq (R x y)

  abbrev one : A → A → ℕ
  one z x = cond (eq z x) 1 0

  weak : IsStrictWeakOrder lt
  weak = ranks_by o (λ x. x)

  -- neither of two is before the other
  neither : (x y : A) → lt x y ≡ false → lt y x ≡ false → x ≡ y
  neither x y up down = by (R x y) refl
    where
      by : (r : Ordering) → R x y ≡ r → x ≡ y
      by Less is = absurd (let bad : true ≡ false = sym (ap is_lt is) ∙ up in cc)
      by Equal is = same x y is
      by Greater is = absurd (let back : R y x ≡ Less =
          o.antisymm y x ∙ ap ordering_reverse is in
          let bad : true ≡ false = sym (ap is_lt back) ∙ down in cc)

  is_same : (x y : A) → eq x y ≡ true → x ≡ y
  is_same x y is = by (R x y) refl
    where
      by : (r : Ordering) → R x y ≡ r → x ≡ y
      by Less at = absurd (let bad : false ≡ true = sym (ap is_eq at) ∙ is in cc)
      by Equal at = same x y at
      by Greater at = absurd (let bad : false ≡ true = sym (ap is_eq at) ∙ is in cc)

  -- an item is among those that begin with it
  here : (x : A) (xs : List A) → 0 < count_by (eq x) (x ∷ xs)
  here x xs =
      let mine : one x x ≡ 1 = ap (λ (r : Ordering). cond (is_eq r) 1 0) (tied_itself o x) in
      omega (arith, sum_by-cons (one x) x xs, mine)

  -- an item that is before the first one isn't there
  none_there : (x z : A) (ws : List A) → AllByRecursion (λ w. lt w x ≡ false) ws
      → lt z x ≡ true → count_by (eq z) ws ≡ 0
  none_there x z [] least before = refl
  none_there x z (w ∷ ws) least before =
      let other : one z w ≡ 0 = by (eq z w) refl in
      omega (arith, sum_by-cons (one z) w ws, other, none_there x z ws least.1 before)
    where
      by : (b : Bool) → eq z w ≡ b → one z w ≡ 0
      by false is = ap (λ (b : Bool). cond {A = ℕ} b 1 0) is
      by true is = absurd (let bad : false ≡ true =
          sym least.0 ∙ ap (λ (y : A). lt y x) (sym (is_same z w is)) ∙ before in cc)

  -- none is before the first
  least : (x : A) (xs : List A) → IsSortedBy lt (x ∷ xs)
      → AllByRecursion (λ w. lt w x ≡ false) (x ∷ xs)
  least x xs up =
      recursion_from_All (λ w. lt w x ≡ false) (x ∷ xs)
      (λ k d low. sorted_far lt weak (x ∷ xs) up 0 k d (omega arith) low)

  tail_up : (x : A) (xs : List A) → IsSortedBy lt (x ∷ xs) → IsSortedBy lt xs
  tail_up x xs up k d low high =
      let next : suc k + 1 ≡ suc (k + 1) = omega arith in
      subst (λ (n : ℕ).
      lt (slice_index_or (x ∷ xs) n d) (slice_index_or (x ∷ xs) (suc k) d) ≡ false) next
      (up (suc k) d (omega arith) (omega arith))

  first_not : (x y : A) (xs ys : List A)
      → ((z : A) → count_by (eq z) (y ∷ ys) ≡ count_by (eq z) (x ∷ xs))
      → IsSortedBy lt (x ∷ xs) → lt y x ≡ false
  first_not x y xs ys counts up = by (lt y x) refl
    where
      by : (b : Bool) → lt y x ≡ b → lt y x ≡ false
      by false is = is
      by true is =
          let none = none_there x y (x ∷ xs) (least x xs up) is in
          let some = here y ys in
          let both = counts y in
          absurd (omega arith)

  pub same_order : (xs ys : List A) → ((z : A) → count_by (eq z) ys ≡ count_by (eq z) xs)
      → IsSortedBy lt xs → IsSortedBy lt ys → xs ≡ ys
  same_order [] [] counts up down = refl
  same_order [] (y ∷ ys) counts up down =
      let some = here y ys in let both = counts y in absurd (omega arith)
  same_order (x ∷ xs) [] counts up down =
      let some = here x xs in let both = counts x in absurd (omega arith)
  same_order (x ∷ xs) (y ∷ ys) counts up down =
      let alike : x ≡ y =
      neither x y (first_not y x ys xs (λ z. sym (counts z)) down) (first_not x y xs ys counts up)
      in
      let rest : (z : A) → count_by (eq z) ys ≡ count_by (eq z) xs = λ z.
      (let both = counts z in
      let ones : one z x ≡ one z y = ap (one z) alike in
      omega (arith, sum_by-cons (one z) x xs, sum_by-cons (one z) y ys)) in
      ap (λ (w : A). w ∷ xs) alike
      ∙ ap (λ (l : List A). y ∷ l)
      (same_order xs ys rest (tail_up x xs up) (tail_up y ys down))

  pub sorted_same : (xs ys : List A) → IsPermutation xs ys → IsSortedBy lt xs → IsSortedBy lt ys
      → xs ≡ ys
  sorted_same xs ys moved up down =
      same_order xs ys (λ z. sum_by-IsPermutation (one z) xs ys moved) up down
