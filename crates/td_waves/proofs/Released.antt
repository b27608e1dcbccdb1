-- What becomes of the work where one on which some build is placed at a level.
use Rattle.std.proofs.Common.{◌≡◌, ◌+◌, ◌-◌, ◌<◌, ◌==◌, ℕ, Bool, true, false}
use Rattle.std.proofs.Common.{List, [], ◌∷◌, ◌++◌, length, get_or, set, if◌then◌else◌, refl, sym}
use Rattle.std.proofs.Common.{ap, ◌∙◌, inl, inr, arith, get_or-set_other}
use Rattle.std.proofs.lemmas.Bool.{cases_lt}
use Rattle.std.proofs.lemmas.Bool.Decides.{eqb_tells, nat_tests}
use Rattle.std.proofs.lemmas.Grind.{get_or-set_at}
use Rattle.std.proofs.lemmas.List.{get_or_past}
use Rattle.td_waves.specs.Graph.{uses, raised, freed}
use Rattle.td_waves.proofs.Uses.{one, uses-push}

-- the work after some of those that build on it were told, each so often
pub record Released (level : ℕ) (left0 heights0 ready0 : List ℕ) (told : ℕ → ℕ)
    (left heights ready : List ℕ) : Type 0 where
  pub left_is : (s : ℕ) → get_or left s 0 + told s ≡ get_or left0 s 0
  pub heights_are : (s : ℕ) → get_or heights s 0
      ≡ (if told s == 0 then get_or heights0 s 0 else raised level (get_or heights0 s 0))
  pub ready_are : (s : ℕ) → uses s ready
      ≡ uses s ready0 + freed (get_or left0 s 0) (get_or left s 0)

pub within : (xs : List ℕ) (i : ℕ) → 0 < get_or xs i 0 → i < length xs
within xs i h = elim (cases_lt i (length xs)) [
  | inl below ↦ below
  | inr past ↦ absurd
      (omega (arith, get_or_past xs i 0 past))
]

told_heights : (level h0 h told more : ℕ) → h ≡ (if told == 0 then h0 else raised level h0)
    → more ≡ told + 1 → raised level h ≡ (if more == 0 then h0 else raised level h0)
told_heights level h0 h told more e m = grind (arith, nat_tests)

told_ready : (left0 left told r r0 now : ℕ) → 0 < left → left + told ≡ left0
    → r ≡ r0 + freed left0 left → now ≡ (if left - 1 == 0 then r + 1 else r)
    → now ≡ r0 + freed left0 (left - 1)
told_ready left0 left told r r0 now h e q n = grind (arith, nat_tests)

uses-if : (b : Bool) (s : ℕ) (xs : List ℕ) (x : ℕ)
    → uses s (if b then xs ++ x ∷ [] else xs) ≡ (if b then uses s xs + one s x else uses s xs)
uses-if true s xs x = uses-push s xs x
uses-if false s xs x = refl

same-if : (b : Bool) (n : ℕ) → ◌≡◌ {A = ℕ} (if b then n + 0 else n) n
same-if true n = omega arith
same-if false n = refl

-- one more is told
pub released_next : (level : ℕ) (left0 heights0 ready0 : List ℕ) (told more : ℕ → ℕ)
    (left heights ready : List ℕ) (user : ℕ)
    → Released level left0 heights0 ready0 told left heights ready → 0 < get_or left user 0
    → length heights ≡ length left → ((s : ℕ) → more s ≡ told s + one s user)
    → Released level left0 heights0 ready0 more (set left user (get_or left user 0 - 1))
    (set heights user (raised level (get_or heights user 0)))
    (if get_or left user 0 - 1 == 0 then ready ++ user ∷ [] else ready)
released_next level left0 heights0 ready0 told more left heights ready user so_far some tall tells =
    record {
      left_is = λ s. elim (eqb_tells user s) [
        | inl p ↦
            let told_here = rw p.0 at (tells s) in
            omega (
              arith,
              told_here,
              get_or-set_at left user s (get_or left user 0 - 1) 0 (sym p.1)
                  (within left user some),
              so_far.left_is s,
              ap (λ k. get_or left k 0) p.1,
            )
        | inr p ↦
            let told_none = rw p.0 at (tells s) in
            omega (
              arith,
              told_none,
              get_or-set_other left user s (get_or left user 0 - 1) 0
                  (λ q. p.1 (sym q)),
              so_far.left_is s,
            )
      ];
      heights_are = λ s. elim (eqb_tells user s) [
        | inl p ↦
            let told_here = rw p.0 at (tells s) in
            get_or-set_at heights user s (raised level (get_or heights user 0)) 0 (sym p.1)
            (omega (arith, within left user some, tall))
            ∙ ap (λ k. raised level (get_or heights k 0)) p.1
            ∙ told_heights level (get_or heights0 s 0) (get_or heights s 0) (told s) (more s)
            (so_far.heights_are s) told_here
        | inr p ↦
            let told_none = rw p.0 at (tells s) in
            let same : told s ≡ more s = omega (arith, told_none) in
            get_or-set_other heights user s (raised level (get_or heights user 0)) 0 (λ q.
            p.1 (sym q))
            ∙ so_far.heights_are s
            ∙ ap (λ n. if n == 0 then get_or heights0 s 0 else raised level (get_or heights0 s 0))
            same
      ];
      ready_are = λ s. elim (eqb_tells user s) [
        | inl p ↦
            let pushed = rw p.0 at (uses-if (get_or left user 0 - 1 == 0) s ready user) in
            let it = ap (λ k. get_or left k 0) p.1 in
            let set_to = get_or-set_at left user s (get_or left user 0 - 1) 0 (sym p.1)
            (within left user some) in
            told_ready (get_or left0 s 0) (get_or left s 0) (told s) (uses s ready)
            (uses s ready0) _
            (omega (arith, it)) (so_far.left_is s) (so_far.ready_are s)
            (pushed ∙ ap (λ n. if n - 1 == 0 then uses s ready + 1 else uses s ready) it)
            ∙ ap (λ n. uses s ready0 + freed (get_or left0 s 0) n)
            (sym (set_to ∙ ap (λ n. n - 1) it))
        | inr p ↦
            let pushed = rw p.0 at (uses-if (get_or left user 0 - 1 == 0) s ready user) in
            pushed ∙ same-if (get_or left user 0 - 1 == 0) (uses s ready) ∙ so_far.ready_are s
            ∙ ap (λ n. uses s ready0 + freed (get_or left0 s 0) n)
            (sym (get_or-set_other left user s (get_or left user 0 - 1) 0 (λ q. p.1 (sym q))))
      ];
    }
