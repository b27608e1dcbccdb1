-- Level numbers that fit their neighbours' are the levels.
use Rattle.std.proofs.Common.{◌≡◌, ◌+◌, ℕ, zero, suc, ◌<◌, ◌≤◌, ◌⊎◌, inl, inr, refl, arith}
use Rattle.std.proofs.lemmas.Bool.{cases_lt}
use Rattle.td_waves.specs.Levels.{UpTo, IsOn, IsCyclic}

-- numbers, 0 for none, that fit: what has one builds on lower ones alone,
-- on the one right below it where it isn't the first; what has none builds on one that has none
pub record Certified {X : Type 0} (A : X → Type 0) (B : X → X → Type 0)
    (number : X → ℕ) : Type 0 where
  pub below : (x y : X) → A x → A y → B x y → 0 < number x → (0 < number y) × (number y < number x)
  pub tight : (x : X) → A x → 0 < number x
      → (number x ≡ 1) ⊎ ((y : X) × A y × B x y × (number x ≡ number y + 1))
  pub stuck : (x : X) → A x → number x ≡ 0 → (y : X) × A y × B x y × (number y ≡ 0)

pub zero_or_more : (n : ℕ) → (n ≡ 0) ⊎ (0 < n)
zero_or_more zero = inl refl
zero_or_more (suc n) = inr (omega arith)

-- what is in a level up to k has a number, at most k
pub numbered : {X : Type 0} (A : X → Type 0) (B : X → X → Type 0) (number : X → ℕ)
    → Certified A B number → (k : ℕ) (x : X) → UpTo A B k x → (0 < number x) × (number x ≤ k)
numbered A B number ok zero x h = absurd h
numbered A B number ok (suc k) x (inl h) = let r = numbered A B number ok k x h in
    (r.0, omega (arith, r.1))
numbered A B number ok (suc k) x (inr f) =
    elim (zero_or_more (number x)) [
      | inl none ↦
          let s = ok.stuck x f.affected none in
          let r = numbered A B number ok k s.0 (f.grounded s.0 s.1 s.2) in
          absurd (omega (arith, r.0, s.3))
      | inr some ↦ elim (ok.tight x f.affected some) [
        | inl first ↦ (some, omega (arith, first))
        | inr t ↦
            let r = numbered A B number ok k t.0 (f.grounded t.0 t.1 t.2) in
            (some, omega (arith, r.1, t.3))
      ]
    ]

-- .. and what has a number is in a level up to it
pub placed : {X : Type 0} (A : X → Type 0) (B : X → X → Type 0) (number : X → ℕ)
    → Certified A B number → (k : ℕ) (x : X) → A x → 0 < number x → number x ≤ k → UpTo A B k x
placed A B number ok zero x a some h = absurd (omega arith)
placed A B number ok (suc k) x a some h =
    elim (cases_lt (number x) (suc k)) [
      | inl less ↦ inl (placed A B number ok k x a some (omega arith))
      | inr whole ↦ inr (record {
        affected = a;
        not_before = λ u. let r = numbered A B number ok k x u in omega (arith, r.1);
        grounded = λ y ay b. let r = ok.below x y a ay b some in
            placed A B number ok k y ay r.0 (omega (arith, r.1));
      })
    ]

-- what has a number is in that level
pub on_level : {X : Type 0} (A : X → Type 0) (B : X → X → Type 0) (number : X → ℕ)
    → Certified A B number → (k : ℕ) (x : X) → A x → number x ≡ k → 0 < k → IsOn A B k x
on_level A B number ok zero x a e h = absurd (omega arith)
on_level A B number ok (suc k) x a e h = record {
  affected = a;
  not_before = λ u. let r = numbered A B number ok k x u in omega (arith, r.1);
  grounded = λ y ay b. let r = ok.below x y a ay b (omega arith) in
      placed A B number ok k y ay r.0 (omega (arith, r.1));
}

-- what has none is cyclic
pub in_no_level : {X : Type 0} (A : X → Type 0) (B : X → X → Type 0) (number : X → ℕ)
    → Certified A B number → (x : X) → A x → number x ≡ 0 → IsCyclic A B x
in_no_level A B number ok x a e =
    (a, λ k u. let r = numbered A B number ok k x u in omega (arith, r.0))

-- each level from 1 to one that has something has something:
-- so the number of levels is the greatest number
pub reached : {X : Type 0} (A : X → Type 0) (B : X → X → Type 0) (number : X → ℕ)
    → Certified A B number → (k : ℕ) (x : X) → A x → number x ≡ k → (j : ℕ) → 0 < j → j ≤ k
    → (y : X) × A y × (number y ≡ j)
reached A B number ok zero x a e j some le = absurd (omega arith)
reached A B number ok (suc k) x a e j some le =
    elim (cases_lt j (suc k)) [
      | inl less ↦ elim (ok.tight x a (omega (arith, e))) [
        | inl first ↦ absurd (omega (arith, first, e))
        | inr t ↦ reached A B number ok k t.0 t.1 (omega (arith, t.3, e)) j some (omega arith)
      ]
      | inr whole ↦ (x, a, omega (arith, e))
    ]
