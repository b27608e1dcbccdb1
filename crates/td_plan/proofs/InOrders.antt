-- Things that are put in an order, and the first of some.
use Rattle.std.proofs.Common.{◌≡◌, ◌⊎◌, ◌+◌, ◌∷◌, [], ◌∙◌, ℕ, Bool, true, false, List, cond}
use Rattle.std.proofs.Common.{Option, Some, None, filter, inl, inr, refl, sym, ap, subst, arith}
use Rattle.std.specs.Cmp.Lexicographic.{slice_cmp}
use Rattle.std.specs.List.{Contains, count_by, fold}
use Rattle.std.specs.Ordering.{is_gt, is_lt, nat_cmp, ordering_reverse}
use Rattle.std.specs.declared.cmp.Ordering.{Ordering}
use Rattle.std.specs.declared.cmp.Ordering.TheVariants.{Less, Equal, Greater}
use Rattle.std.proofs.lemmas.Bool.{cond_both, false≢true}
use Rattle.std.proofs.lemmas.Cmp.{nat_list_cmp_total, tied_itself, upto}
use Rattle.std.proofs.lemmas.List.Sums.{sum_by-cons}
use Rattle.td_indices.proofs.OfferLaws.{has_cases, has_first, has_more}
use Rattle.td_plan.specs.InOrder.{earlier, first_where, in_order, is_before, put_in}

-- ---- 1. what is in order is what there is

nowhere : {A : Type 0} (z : A) → ¬ Contains [] z
nowhere z has = omega (arith, has.1)

module _ {A : Type 0} (before : A → A → Bool) where
  put-cases : (x : A) (ys : List A) (z : A) → Contains (put_in before x ys) z
      → (x ≡ z) ⊎ Contains ys z
  unfolding put_in
  put-cases x [] z = λ has. has_cases x [] z has
  put-cases x (y ∷ ys) z =
      cond_both (before x y) (x ∷ (y ∷ ys)) (y ∷ put_in before x ys)
      (λ zs. Contains zs z → (x ≡ z) ⊎ Contains (y ∷ ys) z)
      (λ _ has. has_cases x (y ∷ ys) z has)
      (λ _ has. elim (has_cases y (put_in before x ys) z has) [
        | inl same ↦ inr (subst (λ w. Contains (y ∷ ys) w) same (has_first y ys))
        | inr later ↦ elim (put-cases x ys z later) [
          | inl same ↦ inl same
          | inr mine ↦ inr (has_more y ys z mine)
        ]
      ])

  put-has : (x : A) (ys : List A) (z : A) → (x ≡ z) ⊎ Contains ys z
      → Contains (put_in before x ys) z
  unfolding put_in
  put-has x [] z (inl same) = subst (λ w. Contains (x ∷ []) w) same (has_first x [])
  put-has x [] z (inr mine) = absurd (nowhere z mine)
  put-has x (y ∷ ys) z at =
      cond_both (before x y) (x ∷ (y ∷ ys)) (y ∷ put_in before x ys) (λ zs. Contains zs z)
      (λ _. elim at [
        | inl same ↦ subst (λ w. Contains (x ∷ (y ∷ ys)) w) same (has_first x (y ∷ ys))
        | inr mine ↦ has_more x (y ∷ ys) z mine
      ])
      (λ _. elim at [
        | inl same ↦ has_more y (put_in before x ys) z (put-has x ys z (inl same))
        | inr mine ↦ elim (has_cases y ys z mine) [
          | inl first ↦ subst (λ w. Contains (y ∷ put_in before x ys) w) first
              (has_first y (put_in before x ys))
          | inr later ↦ has_more y (put_in before x ys) z (put-has x ys z (inr later))
        ]
      ])

  pub order-of : (xs : List A) (z : A) → Contains (in_order before xs) z → Contains xs z
  unfolding in_order
  order-of [] z has = has
  order-of (x ∷ xs) z has = elim (put-cases x (in_order before xs) z has) [
    | inl same ↦ subst (λ w. Contains (x ∷ xs) w) same (has_first x xs)
    | inr mine ↦ has_more x xs z (order-of xs z mine)
  ]

  pub order-has : (xs : List A) (z : A) → Contains xs z → Contains (in_order before xs) z
  unfolding in_order
  order-has [] z has = has
  order-has (x ∷ xs) z has = elim (has_cases x xs z has) [
    | inl same ↦ put-has x (in_order before xs) z (inl same)
    | inr mine ↦ put-has x (in_order before xs) z (inr (order-has xs z mine))
  ]

  -- each item is there as often
  module _ (test : A → Bool) where
    abbrev one : A → ℕ
    one x = cond (test x) 1 0

    put-count : (x : A) (ys : List A)
        → count_by test (put_in before x ys) ≡ one x + count_by test ys
    unfolding put_in
    put-count x [] = sum_by-cons one x []
    put-count x (y ∷ ys) =
        cond_both (before x y) (x ∷ (y ∷ ys)) (y ∷ put_in before x ys)
        (λ zs. count_by test zs ≡ one x + count_by test (y ∷ ys))
        (λ _. sum_by-cons one x (y ∷ ys))
        (λ _. omega (
          arith,
          sum_by-cons one y (put_in before x ys),
          sum_by-cons one y ys,
          put-count x ys,
        ))

    pub order-count : (xs : List A) → count_by test (in_order before xs) ≡ count_by test xs
    unfolding in_order
    order-count [] = refl
    order-count (x ∷ xs) = omega (
      arith,
      put-count x (in_order before xs),
      order-count xs,
      sum_by-cons one x xs,
    )

-- ---- 2. what passes a test

module _ {A : Type 0} (test : A → Bool) where
  pub filter-of : (xs : List A) (z : A) → Contains (filter test xs) z
      → Contains xs z × (test z ≡ true)
  filter-of [] z = λ has. absurd (nowhere z has)
  filter-of (x ∷ xs) z =
      cond_both (test x) (x ∷ filter test xs) (filter test xs)
      (λ zs. Contains zs z → Contains (x ∷ xs) z × (test z ≡ true))
      (λ passes has. elim (has_cases x (filter test xs) z has) [
        | inl same ↦ (
          subst (λ w. Contains (x ∷ xs) w) same (has_first x xs),
          sym (ap test same) ∙ passes,
        )
        | inr mine ↦ let rest = filter-of xs z mine in (has_more x xs z rest.0, rest.1)
      ])
      (λ _ has. let rest = filter-of xs z has in (has_more x xs z rest.0, rest.1))

  pub filter-has : (xs : List A) (z : A) → test z ≡ true → Contains xs z
      → Contains (filter test xs) z
  filter-has [] z passes has = has
  filter-has (x ∷ xs) z passes has =
      cond_both (test x) (x ∷ filter test xs) (filter test xs) (λ zs. Contains zs z)
      (λ _. elim (has_cases x xs z has) [
        | inl same ↦
            subst (λ w. Contains (x ∷ filter test xs) w) same (has_first x (filter test xs))
        | inr mine ↦ has_more x (filter test xs) z (filter-has xs z passes mine)
      ])
      (λ fails. elim (has_cases x xs z has) [
        | inl same ↦ absurd (false≢true (sym fails ∙ ap test same ∙ passes))
        | inr mine ↦ filter-has xs z passes mine
      ])

-- ---- 3. the first of some, by their names

-- one text isn't before another if and only if the other is up to it
not-before : (o q : Ordering) → o ≡ ordering_reverse q → is_lt o ≡ false → is_gt q ≡ false
not-before Less Less back low = cc
not-before Less Equal back low = cc
not-before Less Greater back low = absurd (false≢true (sym low))
not-before Equal Less back low = cc
not-before Equal Equal back low = refl
not-before Equal Greater back low = cc
not-before Greater Less back low = refl
not-before Greater Equal back low = cc
not-before Greater Greater back low = cc

not-above : (o q : Ordering) → o ≡ ordering_reverse q → is_gt q ≡ false → is_lt o ≡ false
not-above Less Less back low = cc
not-above Less Equal back low = cc
not-above Less Greater back low = absurd (false≢true (sym low))
not-above Equal Less back low = cc
not-above Equal Equal back low = refl
not-above Equal Greater back low = cc
not-above Greater Less back low = refl
not-above Greater Equal back low = cc
not-above Greater Greater back low = cc

not-less : (o : Ordering) → is_lt o ≡ true → is_gt o ≡ false
not-less Less low = refl
not-less Equal low = absurd (false≢true low)
not-less Greater low = absurd (false≢true low)

abbrev order : List ℕ → List ℕ → Ordering
order = slice_cmp nat_cmp

-- y isn't before b, if b isn't above x and y isn't before x
pub before-through : (b x y : List ℕ) → is_before x b ≡ false → is_before y x ≡ false
    → is_before y b ≡ false
before-through b x y low next = not-above (order y b) (order b y) (nat_list_cmp_total.antisymm y b)
    (upto nat_list_cmp_total b x y
    (not-before (order x b) (order b x) (nat_list_cmp_total.antisymm x b) low)
    (not-before (order y x) (order x y) (nat_list_cmp_total.antisymm y x) next))

-- nothing is before itself
pub before-itself : (a : List ℕ) → is_before a a ≡ false
before-itself a = ap is_lt (tied_itself nat_list_cmp_total a)

-- a text that is before another isn't after it
pub before-back : (x y : List ℕ) → is_before x y ≡ true → is_before y x ≡ false
before-back x y low = not-above (order y x) (order x y) (nat_list_cmp_total.antisymm y x)
    (not-less (order x y) low)

module _ {A : Type 0} (name : A → List ℕ) where
  -- what is found of those so far, and those to come
  abbrev IsAmong : Option A → List A → A → Type 0
  IsAmong start xs c = (start ≡ Some c) ⊎ Contains xs c

  -- no item that was found or is to come is before b
  abbrev IsLeast : Option A → List A → A → Type 0
  IsLeast start xs b = (c : A) → IsAmong start xs c → is_before (name c) (name b) ≡ false

  shifted : (x : A) (xs : List A) (b : A) → IsAmong (Some x) xs b → Contains (x ∷ xs) b
  shifted x xs b (inl same) =
      let is : x ≡ b = cc in subst (λ w. Contains (x ∷ xs) w) is (has_first x xs)
  shifted x xs b (inr mine) = has_more x xs b mine

  unshifted : (x : A) (xs : List A) (c : A) → Contains (x ∷ xs) c → IsAmong (Some x) xs c
  unshifted x xs c has = elim (has_cases x xs c has) [
    | inl same ↦ inl (ap Some same)
    | inr mine ↦ inr mine
  ]

  -- one item more after the first
  behind : (x : A) (xs : List A) (y b : A) (t : Bool) → is_before (name x) (name y) ≡ t
      → ((start : Option A) → fold (earlier name) start xs ≡ Some b
      → IsAmong start xs b × IsLeast start xs b)
      → fold (earlier name) (cond t (Some x) (Some y)) xs ≡ Some b
      → IsAmong (Some y) (x ∷ xs) b × IsLeast (Some y) (x ∷ xs) b
  behind x xs y b true low rest is =
      let so = rest (Some x) is in (
        inr (shifted x xs b so.0),
        λ c at. elim at [
          | inl same ↦
              let one : y ≡ c = cc in
              subst (λ w. is_before (name w) (name b) ≡ false) one
              (before-through (name b) (name x) (name y) (so.1 x (inl refl))
              (before-back (name x) (name y) low))
          | inr mine ↦ so.1 c (unshifted x xs c mine)
        ],
      )
  behind x xs y b false high rest is =
      let so = rest (Some y) is in (
        elim so.0 [
          | inl same ↦ inl same
          | inr mine ↦ inr (has_more x xs b mine)
        ],
        λ c at. elim at [
          | inl same ↦ so.1 c (inl same)
          | inr mine ↦ elim (has_cases x xs c mine) [
            | inl one ↦ subst (λ w. is_before (name w) (name b) ≡ false) one
                (before-through (name b) (name y) (name x) (so.1 y (inl refl)) high)
            | inr later ↦ so.1 c (inr later)
          ]
        ],
      )

  first-of : (xs : List A) (start : Option A) (b : A) → fold (earlier name) start xs ≡ Some b
      → IsAmong start xs b × IsLeast start xs b
  first-of [] start b is = (
    inl is,
    λ c at. elim at [
      | inl same ↦
          let one : c ≡ b = cc in
          subst (λ w. is_before (name w) (name b) ≡ false) (sym one) (before-itself (name b))
      | inr mine ↦ absurd (nowhere c mine)
    ],
  )
  first-of (x ∷ xs) None b is =
      let rest = first-of xs (Some x) b is in (
        inr (shifted x xs b rest.0),
        λ c at. elim at [
          | inl same ↦ cc
          | inr mine ↦ rest.1 c (unshifted x xs c mine)
        ],
      )
  first-of (x ∷ xs) (Some y) b is = behind x xs y b (is_before (name x) (name y)) refl
      (λ start other. first-of xs start b other) is

  -- the first of those that pass a test passes it, and none that does is before it
  pub first-least : (test : A → Bool) (xs : List A) (b : A) → first_where name test xs ≡ Some b
      → Contains xs b × (test b ≡ true)
      × ((c : A) → Contains xs c → test c ≡ true → is_before (name c) (name b) ≡ false)
  first-least test xs b is =
      let found = first-of (filter test xs) None b is in
      let mine : Contains (filter test xs) b = elim found.0 [
        | inl none ↦ cc
        | inr has ↦ has
      ] in
      let of = filter-of test xs b mine in
      (of.0, of.1, λ c has passes. found.1 c (inr (filter-has test xs c passes has)))
