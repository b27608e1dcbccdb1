-- Levels of numbers are the levels of what they stand for.
use Rattle.std.proofs.Common.{◌≡◌, ◌↔◌, ℕ, zero, suc, inl, inr, sym, subst, Some}
use Rattle.td_waves.specs.Levels.{UpTo, StandsAt}
use Rattle.td_waves.specs.declared.level.Level.{Level}
use Rattle.td_waves.specs.declared.level.Level.TheVariants.{At, Cyclic}

-- each number stands for something affected, each such thing has a number,
-- and the numbers build on one another as what they stand for
pub record StandFor {X : Type 0} (A : X → Type 0) (B : X → X → Type 0) (N : ℕ → Type 0)
    (E : ℕ → ℕ → Type 0) (name : ℕ → X) : Type 0 where
  pub affected : (i : ℕ) → N i → A (name i)
  pub onto : (x : X) → A x → (i : ℕ) × N i × (name i ≡ x)
  pub same : (i j : ℕ) → N i → N j → (E i j ↔ B (name i) (name j))

pub up_to-along : {X : Type 0} (A : X → Type 0) (B : X → X → Type 0) (N : ℕ → Type 0)
    (E : ℕ → ℕ → Type 0) (name : ℕ → X) → StandFor A B N E name → (k i : ℕ) → N i
    → (UpTo N E k i ↔ UpTo A B k (name i))
up_to-along A B N E name s zero i n = (λ h. h, λ h. h)
up_to-along A B N E name s (suc k) i n = (
  λ h. elim h [
    | inl before ↦ inl ((up_to-along A B N E name s k i n).0 before)
    | inr f ↦ inr (record {
      affected = s.affected i n;
      not_before = λ u. f.not_before ((up_to-along A B N E name s k i n).1 u);
      grounded = λ y ay b.
          let j = s.onto y ay in
          let e = (s.same i j.0 n j.1).1 (subst (λ z. B (name i) z) (sym j.2) b) in
          subst (λ z. UpTo A B k z) j.2
          ((up_to-along A B N E name s k j.0 j.1).0 (f.grounded j.0 j.1 e));
    })
  ],
  λ h. elim h [
    | inl before ↦ inl ((up_to-along A B N E name s k i n).1 before)
    | inr f ↦ inr (record {
      affected = n;
      not_before = λ u. f.not_before ((up_to-along A B N E name s k i n).0 u);
      grounded = λ j nj e. (up_to-along A B N E name s k j nj).1
          (f.grounded (name j) (s.affected j nj) ((s.same i j n nj).0 e));
    })
  ],
)

-- where a number stands, there stands what it stands for
pub stands-along : {X : Type 0} (A : X → Type 0) (B : X → X → Type 0) (N : ℕ → Type 0)
    (E : ℕ → ℕ → Type 0) (name : ℕ → X) → StandFor A B N E name → (i : ℕ) (l : Level) → N i
    → StandsAt N E i (Some l) → StandsAt A B (name i) (Some l)
stands-along A B N E name s i (At zero) n h = h
stands-along A B N E name s i (At (suc k)) n h = record {
  affected = s.affected i n;
  not_before = λ u. h.not_before ((up_to-along A B N E name s k i n).1 u);
  grounded = λ y ay b.
      let j = s.onto y ay in
      let e = (s.same i j.0 n j.1).1 (subst (λ z. B (name i) z) (sym j.2) b) in
      subst (λ z. UpTo A B k z) j.2
      ((up_to-along A B N E name s k j.0 j.1).0 (h.grounded j.0 j.1 e));
}
stands-along A B N E name s i Cyclic n h =
    (s.affected i n, λ k u. h.1 k ((up_to-along A B N E name s k i n).1 u))
