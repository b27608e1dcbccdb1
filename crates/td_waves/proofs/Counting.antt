-- Counts of what a list has.
use Rattle.std.proofs.Common.{◌≡◌, ◌+◌, ◌<◌, ◌==◌, ℕ, suc, cond, Bool, true, false}
use Rattle.std.proofs.Common.{List, [], ◌∷◌, length, get_or, set, refl, sym, ap, ◌∙◌, inl, inr}
use Rattle.std.proofs.Common.{arith, count_by, get_or-set_other}
use Rattle.std.specs.List.{Contains}
use Rattle.std.proofs.lemmas.Bool.{cases_Bool, false≢true}
use Rattle.std.proofs.lemmas.Bool.Decides.{eqb_tells, nat_tests}
use Rattle.std.proofs.lemmas.Grind.{get_or-set_at}
use Rattle.std.proofs.lemmas.List.Sums.{sum_by-cons, sum_by-set, get_or-le-sum_by}
use Rattle.td_waves.specs.Graph.{uses}
use Rattle.td_waves.proofs.Uses.{one, one_same}

abbrev pub bit : Bool → ℕ
bit b = cond b 1 0

-- 1 for what passes
abbrev pub pass : (ℕ → Bool) → ℕ → ℕ
pass p x = bit (p x)

pub none_passes : (p : ℕ → Bool) (xs : List ℕ) (y : ℕ) → count_by p xs ≡ 0 → Contains xs y
    → p y ≡ false
none_passes p xs y none has = elim (cases_Bool (p y)) [
  | inl is ↦
      absurd (omega (
        arith,
        get_or-le-sum_by (pass p) xs has.0 y has.1,
        none,
        ap (pass p) has.2,
        ap bit is,
      ))
  | inr not ↦ not
]

pub some_passes : (p : ℕ → Bool) (xs : List ℕ) → 0 < count_by p xs
    → (y : ℕ) × Contains xs y × (p y ≡ true)
some_passes p [] h = absurd (omega arith)
some_passes p (x ∷ xs) h = elim (cases_Bool (p x)) [
  | inl is ↦ (x, (0, omega arith, refl), is)
  | inr not ↦
      let rest = some_passes p xs (omega (arith, sum_by-cons (pass p) x xs, ap bit not)) in
      (rest.0, (suc rest.1.0, omega (arith, rest.1.1), rest.1.2), rest.2)
]

pub all_pass : (p : ℕ → Bool) (xs : List ℕ) → ((y : ℕ) → Contains xs y → p y ≡ true)
    → count_by p xs ≡ length xs
all_pass p [] h = refl
all_pass p (x ∷ xs) h =
    let head = ap bit (h x (0, omega arith, refl)) in
    let rest = all_pass p xs (λ y has. h y (suc has.0, omega (arith, has.1), has.2)) in
    omega (arith, sum_by-cons (pass p) x xs, head, rest)

pub used : (xs : List ℕ) (y : ℕ) → Contains xs y → 0 < uses y xs
used xs y has = omega (
  arith,
  get_or-le-sum_by (one y) xs has.0 y has.1,
  ap (one y) has.2,
  one_same y,
)

pub contains : (xs : List ℕ) (y : ℕ) → 0 < uses y xs → Contains xs y
contains xs y h =
    let some = some_passes (λ x. x == y) xs h in
    let same : some.0 ≡ y = elim (eqb_tells some.0 y) [
      | inl p ↦ p.1
      | inr p ↦ absurd
          (false≢true (sym p.0 ∙ some.2))
    ] in
    (some.1.0, some.1.1, rw same at some.1.2)

-- ---- what isn't placed yet

-- a node without a number
abbrev pub is_open : List ℕ → ℕ → Bool
is_open numbers t = get_or numbers t 1 == 0

not_open : (level : ℕ) → 0 < level → cond (level == 0) 1 0 + 1 ≡ 1
not_open level some = grind (arith, nat_tests)

not_zero : (level : ℕ) → 0 < level → one 0 level ≡ 0
not_zero level some = grind (arith, nat_tests)

closed_one : (numbers : List ℕ) (t level x : ℕ) → get_or numbers t 1 ≡ 0 → 0 < level → t
    < length numbers → pass (is_open (set numbers t level)) x + one t x ≡ pass (is_open numbers) x
closed_one numbers t level x at some lt = elim (eqb_tells x t) [
  | inl p ↦
      let now : get_or (set numbers t level) x 1 ≡ level =
      get_or-set_at numbers t x level 1 p.1 lt in
      let was : get_or numbers x 1 ≡ 0 = ap (λ k. get_or numbers k 1) p.1 ∙ at in
      rw (p.0, now, was) (not_open level some)
  | inr p ↦
      let same : get_or (set numbers t level) x 1 ≡ get_or numbers x 1 =
      get_or-set_other numbers t x level 1 p.1 in
      rw (p.0, same) (omega arith)
]

-- once a node has a number, each list has as many open ones less as it names the node
pub closed : (numbers : List ℕ) (t level : ℕ) (xs : List ℕ) → get_or numbers t 1 ≡ 0 → 0 < level
    → t < length numbers
    → count_by (is_open (set numbers t level)) xs + uses t xs ≡ count_by (is_open numbers) xs
closed numbers t level [] at some lt = refl
closed numbers t level (x ∷ xs) at some lt =
    omega (
      arith,
      sum_by-cons (pass (is_open (set numbers t level))) x xs,
      sum_by-cons (one t) x xs,
      sum_by-cons (pass (is_open numbers)) x xs,
      closed_one numbers t level x at some lt,
      closed numbers t level xs at some lt,
    )

-- and there is one node less without
pub fewer : (numbers : List ℕ) (t level : ℕ) → get_or numbers t 0 ≡ 0 → 0 < level
    → t < length numbers → uses 0 (set numbers t level) + 1 ≡ uses 0 numbers
fewer numbers t level at some lt =
    omega (
      arith,
      sum_by-set (one 0) numbers t level 0 lt,
      ap (one 0) at,
      one_same 0,
      not_zero level some,
    )
