-- Runs that end where a text goes on with something else.
use Rattle.std.proofs.Common.{◌≡◌, ℕ, ◌<◌, Bool, true, false, eqb, List, [], ◌∷◌, ◌++◌, length}
use Rattle.std.proofs.Common.{refl, sym, ap, ◌∙◌, one-add, arith, inl, inr, take-append-drop}
use Rattle.std.specs.List.{list_all, prefix_len}
use Rattle.std.proofs.lemmas.Bool.{and_parts, ne_eqb, cases_Bool, and_from}
use Rattle.std.proofs.lemmas.List.{take_at, drop_at}
use Rattle.td_text.proofs.Cut.{Begins}
use Rattle.td_text.specs.Runs.{is_space, run, behind, trimmed, is_blank}

-- ---- where a run ends

-- the byte with which a text goes on, if there is one, doesn't pass the test
abbrev pub Stops : (ℕ → Bool) → List ℕ → Type 0
Stops test [] = Unit {0}
Stops test (x ∷ t) = test x ≡ false

pub Stops-at : (test : ℕ → Bool) (c : ℕ) (t : List ℕ) → test c ≡ false → Begins c t → Stops test t
Stops-at test c [] out h = tt
Stops-at test c (x ∷ t) out h = ap test h ∙ out

prefix_len-front : (test : ℕ → Bool) (a b : List ℕ) → list_all test a ≡ true → Stops test b
    → prefix_len test (a ++ b) ≡ length a
prefix_len-front test [] [] h s = refl
prefix_len-front test [] (y ∷ b) h s = rw s refl
prefix_len-front test (x ∷ a) b h s =
    let p = and_parts (test x) (list_all test a) h in
    rw (p.0, prefix_len-front test a b p.1 s, one-add) refl

pub run_again : (test : ℕ → Bool) (a b : List ℕ) → list_all test a ≡ true → Stops test b
    → run test (a ++ b) ≡ a
run_again test a b h s =
    take_at a b (prefix_len test (a ++ b)) (sym (prefix_len-front test a b h s))

pub behind_again : (test : ℕ → Bool) (a b : List ℕ) → list_all test a ≡ true → Stops test b
    → behind test (a ++ b) ≡ b
behind_again test a b h s =
    drop_at a b (prefix_len test (a ++ b)) (sym (prefix_len-front test a b h s))

-- ---- what a run has

-- each byte of a run passes its test
pub run_passes : (test : ℕ → Bool) (t : List ℕ) → list_all test (run test t) ≡ true
run_passes test [] = refl
run_passes test (x ∷ t) =
    elim (cases_Bool (test x)) [
      | inl is ↦
          let later = run_passes test t in
          rw (is, one-add) (and_from (test x) (list_all test (run test t)) is later)
      | inr out ↦ rw out refl
    ]

pub run_joined : (test : ℕ → Bool) (t : List ℕ) → t ≡ run test t ++ behind test t
run_joined test t = sym (take-append-drop _ t)

-- ---- whitespace in front

-- a byte that passes a test isn't one that doesn't
pub misses : (test : ℕ → Bool) (c x : ℕ) → test c ≡ false → test x ≡ true → eqb x c ≡ false
misses test c x out h =
    ne_eqb x c (λ e. (let bad : false ≡ true = sym out ∙ ap test (sym e) ∙ h in cc))

-- whitespace doesn't pass the test
pub record NoSpace (test : ℕ → Bool) : Type 0 where
  pub space : test 32 ≡ false
  pub tab : test 9 ≡ false
  pub newline : test 10 ≡ false

pub not_space : (test : ℕ → Bool) (x : ℕ) → NoSpace test → test x ≡ true → is_space x ≡ false
not_space test x lacks h =
    rw (
      misses test 32 x lacks.space h,
      misses test 9 x lacks.tab h,
      misses test 10 x lacks.newline h,
    ) refl

-- a text that begins with bytes of a kind begins with no whitespace
pub Stops-front : (test : ℕ → Bool) (a b : List ℕ) → NoSpace test → 0 < length a
    → list_all test a ≡ true → Stops is_space (a ++ b)
Stops-front test [] b lacks some h = absurd (omega arith)
Stops-front test (x ∷ a) b lacks some h =
    not_space test x lacks (and_parts (test x) (list_all test a) h).0

pub trimmed_space : (t : List ℕ) → trimmed (32 ∷ t) ≡ trimmed t
trimmed_space t = rw one-add refl

-- a space, or none
abbrev pub gap : Bool → List ℕ
gap true = 32 ∷ []
gap false = []

pub Begins-gap : (b : Bool) → Begins 32 (gap b)
Begins-gap true = refl
Begins-gap false = tt

pub trimmed_gap : (b : Bool) (t : List ℕ) → trimmed (gap b ++ t) ≡ trimmed t
trimmed_gap true t = trimmed_space t
trimmed_gap false t = refl

pub is_blank-gap : (b : Bool) (t : List ℕ) → is_blank (gap b ++ t) ≡ is_blank t
is_blank-gap true t = refl
is_blank-gap false t = refl
