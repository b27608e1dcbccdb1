-- A thing stands in one level at most.
use Rattle.std.proofs.Common.{◌≡◌, ◌<◌, ◌≤◌, ℕ, zero, suc, inl, inr, ap, subst}
use Rattle.std.proofs.Common.{Option, None, Some, arith}
use Rattle.std.proofs.lemmas.Bool.{cases_lt}
use Rattle.td_waves.specs.Levels.{UpTo, IsOn, StandsAt}
use Rattle.td_waves.specs.declared.level.Level.{Level}
use Rattle.td_waves.specs.declared.level.Level.TheVariants.{At, Cyclic}
use Rattle.td_waves.proofs.Along.{StandFor, stands-along}

up_more : {X : Type 0} (A : X → Type 0) (B : X → X → Type 0) (j k : ℕ) (x : X) → j ≤ k
    → UpTo A B j x → UpTo A B k x
up_more A B zero k x le h = absurd h
up_more A B (suc j) zero x le h = absurd (omega arith)
up_more A B (suc j) (suc k) x le h = elim (cases_lt j k) [
  | inl lt ↦ inl (up_more A B (suc j) k x (omega arith) h)
  | inr ge ↦ let same : j ≡ k = omega arith in subst (λ n. UpTo A B (suc n) x) same h
]

is_up : {X : Type 0} (A : X → Type 0) (B : X → X → Type 0) (k : ℕ) (x : X) → IsOn A B k x
    → UpTo A B k x
is_up A B zero x h = h
is_up A B (suc k) x h = inr h

not_later : {X : Type 0} (A : X → Type 0) (B : X → X → Type 0) (j k : ℕ) (x : X) → j < k
    → IsOn A B j x → IsOn A B k x → ⊥
not_later A B j zero x lt h g = g
not_later A B j (suc k) x lt h g = g.not_before (up_more A B j k x (omega arith) (is_up A B j x h))

one_level : {X : Type 0} (A : X → Type 0) (B : X → X → Type 0) (j k : ℕ) (x : X) → IsOn A B j x
    → IsOn A B k x → j ≡ k
one_level A B j k x h g = elim (cases_lt j k) [
  | inl lt ↦ absurd (not_later A B j k x lt h g)
  | inr ge ↦ elim (cases_lt k j) [
    | inl lt ↦ absurd (not_later A B k j x lt g h)
    | inr le ↦ omega arith
  ]
]

pub is_affected : {X : Type 0} (A : X → Type 0) (B : X → X → Type 0) (k : ℕ) (x : X) → IsOn A B k x
    → A x
is_affected A B zero x h = absurd h
is_affected A B (suc k) x h = h.affected

pub same_level : {X : Type 0} (A : X → Type 0) (B : X → X → Type 0) (x : X) (o : Option Level)
    (k : ℕ) → StandsAt A B x o → IsOn A B k x → o ≡ Some (At k)
same_level A B x None k h g = absurd (h (is_affected A B k x g))
same_level A B x (Some (At j)) k h g = ap (λ n. Some (At n)) (one_level A B j k x h g)
same_level A B x (Some Cyclic) k h g = absurd (h.1 k (is_up A B k x g))

-- where a number stands, there stands what it stands for
pub stands-for : {X : Type 0} (A : X → Type 0) (B : X → X → Type 0) (N : ℕ → Type 0)
    (E : ℕ → ℕ → Type 0) (name : ℕ → X) → StandFor A B N E name → (i : ℕ) (o : Option Level) → N i
    → StandsAt N E i o → StandsAt A B (name i) o
stands-for A B N E name s i None n h = absurd (h n)
stands-for A B N E name s i (Some l) n h = stands-along A B N E name s i l n h
