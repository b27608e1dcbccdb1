-- The order of a plan's lines, by sources and by the positions that stand for them.
use Rattle.std.proofs.Common.{◌≡◌, ◌⊎◌, ℕ, ◌<◌, ◌==◌, Bool, true, false, cond, List, nat_lt}
use Rattle.std.proofs.Common.{sym}
use Rattle.std.proofs.Common.{ap, subst, ◌∙◌, inl, inr, arith}
use Rattle.std.specs.Cmp.{IsTotalOrder}
use Rattle.std.specs.Ordering.{is_lt, nat_cmp, ordering_then}
use Rattle.std.specs.declared.cmp.Ordering.{Ordering}
use Rattle.std.specs.declared.cmp.Ordering.TheVariants.{Less, Equal, Greater}
use Rattle.std.specs.Str.{bytes_eq}
use Rattle.std.proofs.lemmas.Bool.{cases_Bool, cases_order, eq-eqb, false≢true, lt-ltb, ltb-true}
use Rattle.std.proofs.lemmas.Bool.{le-ltb, ne_eqb}
use Rattle.std.proofs.lemmas.Bool.Decides.{eqb_tells}
use Rattle.std.proofs.lemmas.Cmp.{nat_cmp_total, on_total, then_total}
use Rattle.std.proofs.lemmas.Slice.Eq.{bytes_eq-Decides}
use Rattle.td_plan.specs.InOrder.{is_before}
use Rattle.td_plan.specs.inner.Ordering.{position_cmp}
use Rattle.td_plan.proofs.PlacingsAlike.{cases_text}
use Rattle.td_plan.proofs.Rising.{before-any, before-once, before-trans}

-- ---- 1. by a number and two texts

-- the order by a number, then by a first text, then by a second
abbrev pub place_lt : ℕ → List ℕ → List ℕ → ℕ → List ℕ → List ℕ → Bool
place_lt n a b m c d =
    cond (n == m) (cond (bytes_eq a c) (is_before b d) (is_before a c)) (nat_lt n m)

abbrev pub IsPlaceLt : ℕ → List ℕ → List ℕ → ℕ → List ℕ → List ℕ → Type 0
IsPlaceLt n a b m c d = (n < m)
    ⊎ ((n ≡ m) × ((is_before a c ≡ true) ⊎ ((a ≡ c) × (is_before b d ≡ true))))

pub place-found : (n : ℕ) (a b : List ℕ) (m : ℕ) (c d : List ℕ) → place_lt n a b m c d ≡ true
    → IsPlaceLt n a b m c d
place-found n a b m c d h = elim (eqb_tells n m) [
  | inl one ↦
      let texts : cond (bytes_eq a c) (is_before b d) (is_before a c) ≡ true =
      sym (ap (λ (t : Bool). cond t (cond (bytes_eq a c) (is_before b d) (is_before a c))
      (nat_lt n m)) one.0) ∙ h in
      elim (cases_Bool (bytes_eq a c)) [
        | inl same ↦ inr (
          one.1,
          inr (
            (bytes_eq-Decides a c).0 same,
            sym (ap (λ (t : Bool). cond t (is_before b d) (is_before a c)) same) ∙ texts,
          ),
        )
        | inr other ↦ inr (
          one.1,
          inl
              (sym (ap (λ (t : Bool). cond t (is_before b d) (is_before a c)) other) ∙ texts),
        )
      ]
  | inr other ↦ inl (ltb-true n m (sym (ap (λ (t : Bool). cond t
      (cond (bytes_eq a c) (is_before b d) (is_before a c)) (nat_lt n m)) other.0) ∙ h))
]

pub place-again : (n : ℕ) (a b : List ℕ) (m : ℕ) (c d : List ℕ) → IsPlaceLt n a b m c d
    → place_lt n a b m c d ≡ true
place-again n a b m c d (inl low) =
    ap (λ (t : Bool). cond t (cond (bytes_eq a c) (is_before b d) (is_before a c)) (nat_lt n m))
    (ne_eqb n m (λ same. omega arith)) ∙ lt-ltb n m low
place-again n a b m c d (inr (same, inl low)) =
    let apart : bytes_eq a c ≡ false = elim (cases_Bool (bytes_eq a c)) [
      | inl one ↦ absurd (before-once c c
          (subst (λ (t : List ℕ). is_before t c ≡ true) ((bytes_eq-Decides a c).0 one) low)
          (subst (λ (t : List ℕ). is_before t c ≡ true) ((bytes_eq-Decides a c).0 one) low))
      | inr other ↦ other
    ] in
    ap (λ (t : Bool). cond t (cond (bytes_eq a c) (is_before b d) (is_before a c)) (nat_lt n m))
    (eq-eqb n m same)
    ∙ ap (λ (t : Bool). cond t (is_before b d) (is_before a c)) apart ∙ low
place-again n a b m c d (inr (same, inr (one, low))) =
    ap (λ (t : Bool). cond t (cond (bytes_eq a c) (is_before b d) (is_before a c)) (nat_lt n m))
    (eq-eqb n m same)
    ∙ ap (λ (t : Bool). cond t (is_before b d) (is_before a c)) ((bytes_eq-Decides a c).1 one)
    ∙ low

place-through : (n : ℕ) (a b : List ℕ) (m : ℕ) (c d : List ℕ) (k : ℕ) (e f : List ℕ)
    → IsPlaceLt n a b m c d → IsPlaceLt m c d k e f → IsPlaceLt n a b k e f
place-through n a b m c d k e f (inl low) (inl next) = inl (omega arith)
place-through n a b m c d k e f (inl low) (inr (same, rest)) = inl (omega arith)
place-through n a b m c d k e f (inr (same, rest)) (inl next) = inl (omega arith)
place-through n a b m c d k e f (inr (same, inl low)) (inr (also, inl next)) =
    inr (same ∙ also, inl (before-trans a c e low next))
place-through n a b m c d k e f (inr (same, inl low)) (inr (also, inr (one, next))) =
    inr (same ∙ also, inl (subst (λ (t : List ℕ). is_before a t ≡ true) one low))
place-through n a b m c d k e f (inr (same, inr (one, low))) (inr (also, inl next)) =
    inr (same ∙ also, inl (subst (λ (t : List ℕ). is_before t e ≡ true) (sym one) next))
place-through n a b m c d k e f (inr (same, inr (one, low))) (inr (also, inr (two, next))) =
    inr (same ∙ also, inr (one ∙ two, before-trans b d f low next))

pub place-trans : (n : ℕ) (a b : List ℕ) (m : ℕ) (c d : List ℕ) (k : ℕ) (e f : List ℕ)
    → place_lt n a b m c d ≡ true → place_lt m c d k e f ≡ true → place_lt n a b k e f ≡ true
place-trans n a b m c d k e f low next = place-again n a b k e f
    (place-through n a b m c d k e f (place-found n a b m c d low) (place-found m c d k e f next))

pub place-once : (n : ℕ) (a b : List ℕ) (m : ℕ) (c d : List ℕ) → place_lt n a b m c d ≡ true
    → place_lt m c d n a b ≡ true → ⊥
place-once n a b m c d low back =
    by (place-found n a b n a b (place-trans n a b m c d n a b low back))
  where
    by : IsPlaceLt n a b n a b → ⊥
    by (inl less) = omega arith
    by (inr (same, inl less)) = before-once a a less less
    by (inr (same, inr (one, less))) = before-once b b less less

pub place-any : (n : ℕ) (a b : List ℕ) (m : ℕ) (c d : List ℕ) → ¬ (b ≡ d)
    → (place_lt n a b m c d ≡ true) ⊎ (place_lt m c d n a b ≡ true)
place-any n a b m c d apart = elim (cases_order n m) [
  | inl same ↦ elim (cases_text a c) [
    | inl one ↦ elim (before-any b d apart) [
      | inl low ↦ inl (place-again n a b m c d (inr (same, inr (one, low))))
      | inr low ↦ inr (place-again m c d n a b (inr (sym same, inr (sym one, low))))
    ]
    | inr other ↦ elim (before-any a c other) [
      | inl low ↦ inl (place-again n a b m c d (inr (same, inl low)))
      | inr low ↦ inr (place-again m c d n a b (inr (sym same, inl low)))
    ]
  ]
  | inr way ↦ elim way [
    | inl low ↦ inl (place-again n a b m c d (inl low))
    | inr low ↦ inr (place-again m c d n a b (inl low))
  ]
]

-- ---- 2. by three numbers

less-is : (a b : ℕ) → a < b → nat_cmp a b ≡ Less
less-is a b low =
    ap (λ (t : Bool). cond t Less (cond (a == b) Equal Greater)) (lt-ltb a b low)

equal-is : (a b : ℕ) → a ≡ b → nat_cmp a b ≡ Equal
equal-is a b same =
    ap (λ (t : Bool). cond t Less (cond (a == b) Equal Greater)) (le-ltb a b (omega arith))
    ∙ ap (λ (t : Bool). cond t Equal Greater) (eq-eqb a b same)

greater-is : (a b : ℕ) → b < a → nat_cmp a b ≡ Greater
greater-is a b high =
    ap (λ (t : Bool). cond t Less (cond (a == b) Equal Greater)) (le-ltb a b (omega arith))
    ∙ ap (λ (t : Bool). cond t Equal Greater) (ne_eqb a b (λ same. omega arith))

then-found : (a b : ℕ) (o : Ordering) → is_lt (ordering_then (nat_cmp a b) o) ≡ true
    → (a < b) ⊎ ((a ≡ b) × (is_lt o ≡ true))
then-found a b o h = elim (cases_order a b) [
  | inl same ↦ inr (
    same,
    sym (ap (λ (q : Ordering). is_lt (ordering_then q o)) (equal-is a b same)) ∙ h,
  )
  | inr way ↦ elim way [
    | inl low ↦ inl low
    | inr high ↦ absurd (false≢true
        (sym (ap (λ (q : Ordering). is_lt (ordering_then q o)) (greater-is a b high)) ∙ h))
  ]
]

less-found : (a b : ℕ) → is_lt (nat_cmp a b) ≡ true → a < b
less-found a b h = elim (cases_order a b) [
  | inl same ↦ absurd (false≢true (sym (ap is_lt (equal-is a b same)) ∙ h))
  | inr way ↦ elim way [
    | inl low ↦ low
    | inr high ↦ absurd (false≢true (sym (ap is_lt (greater-is a b high)) ∙ h))
  ]
]

then-any : (a b : ℕ) (o q : Ordering) → (is_lt o ≡ true) ⊎ (is_lt q ≡ true)
    → (is_lt (ordering_then (nat_cmp a b) o) ≡ true)
    ⊎ (is_lt (ordering_then (nat_cmp b a) q) ≡ true)
then-any a b o q way = elim (cases_order a b) [
  | inl same ↦ elim way [
    | inl low ↦ inl (ap (λ (r : Ordering). is_lt (ordering_then r o)) (equal-is a b same) ∙ low)
    | inr low ↦
        inr (ap (λ (r : Ordering). is_lt (ordering_then r q)) (equal-is b a (sym same)) ∙ low)
  ]
  | inr other ↦ elim other [
    | inl low ↦ inl (ap (λ (r : Ordering). is_lt (ordering_then r o)) (less-is a b low))
    | inr low ↦ inr (ap (λ (r : Ordering). is_lt (ordering_then r q)) (less-is b a low))
  ]
]

pub position-total : IsTotalOrder position_cmp
position-total = then_total (on_total (λ (q : ℕ × ℕ × ℕ). q.0) nat_cmp_total)
    (then_total (on_total (λ (q : ℕ × ℕ × ℕ). q.1) nat_cmp_total)
    (on_total (λ (q : ℕ × ℕ × ℕ). q.2) nat_cmp_total))

pub position-found : (q r : ℕ × ℕ × ℕ) → is_lt (position_cmp q r) ≡ true
    → (q.0 < r.0) ⊎ ((q.0 ≡ r.0) × ((q.1 < r.1) ⊎ ((q.1 ≡ r.1) × (q.2 < r.2))))
position-found q r h = elim (then-found q.0 r.0 _ h) [
  | inl low ↦ inl low
  | inr same ↦ elim (then-found q.1 r.1 _ same.1) [
    | inl low ↦ inr (same.0, inl low)
    | inr also ↦ inr (same.0, inr (also.0, less-found q.2 r.2 also.1))
  ]
]

pub position-any : (q r : ℕ × ℕ × ℕ) → q.2 < r.2
    → (is_lt (position_cmp q r) ≡ true) ⊎ (is_lt (position_cmp r q) ≡ true)
position-any q r low = then-any q.0 r.0 _ _ (then-any q.1 r.1 _ _
    (inl (ap is_lt (less-is q.2 r.2 low))))
