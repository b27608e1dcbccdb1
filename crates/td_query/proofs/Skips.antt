-- Whitespace and comments at the front of a text.
use Rattle.std.proofs.Common.{◌≡◌, ℕ, Bool, true, false, eqb, List, [], ◌∷◌, Option, Some, None}
use Rattle.std.proofs.Common.{option_map, refl, sym, ap, ◌∙◌, one-add, subst, inl, inr}
use Rattle.std.specs.Borrow.{Bor}
use Rattle.std.proofs.lemmas.Bool.{ne_eqb}
use Rattle.std.proofs.lemmas.Bool.Decides.{eqb_tells}
use Rattle.td_text.specs.Cut.{strip, cut}
use Rattle.td_text.specs.Chain.{◌>>=◌}
use Rattle.td_text.specs.Runs.{is_space, trimmed}
use Rattle.td_query.specs.Tokens.{line_behind, skipped_in, skipped}

-- what is left of a text, once it is skipped; None: nothing
abbrev pub skipped_left : Option (Bor (List ℕ)) → List ℕ
skipped_left None = []
skipped_left (Some t) = skipped t.now

-- what is left of a text, once it is skipped, without where it lies in memory
abbrev pub skipped_all : Option (List ℕ) → List ℕ
skipped_all None = []
skipped_all (Some t) = skipped t

pub skipped_left-is : (o : Option (Bor (List ℕ))) (p : Option (List ℕ))
    → option_map (λ x. x.now) o ≡ p → skipped_left o ≡ skipped_all p
skipped_left-is None p e = ap skipped_all e
skipped_left-is (Some t) p e = ap skipped_all e

-- ---- a comment goes to the end of its line

pub comment : (t : List ℕ) → skipped_in true t ≡ skipped_all (line_behind t)
unfolding skipped_in cut
comment [] = refl
comment (x ∷ t) =
    elim (eqb_tells x 10) [
      | inl is ↦ rw is.0 refl
      | inr other ↦ rw other.0 (comment t ∙ same (cut 10 t))
    ]
  where
    same : (o : Option (List ℕ × List ℕ))
        → skipped_all (option_map (λ (p : List ℕ × List ℕ). p.1) o)
        ≡ skipped_all (option_map (λ (p : List ℕ × List ℕ). p.1) (o >>= λ p. Some (x ∷ p.0, p.1)))
    same None = refl
    same (Some p) = refl

-- ---- what comes after whitespace

abbrev pub by_hash : List ℕ → Option (List ℕ) → List ℕ
by_hash at None = at
by_hash at (Some c) = skipped_in true c

trimmed-space : (x : ℕ) (t : List ℕ) → is_space x ≡ true → trimmed (x ∷ t) ≡ trimmed t
trimmed-space x t e = rw (e, one-add) refl

trimmed-stop : (x : ℕ) (t : List ℕ) → is_space x ≡ false → trimmed (x ∷ t) ≡ x ∷ t
trimmed-stop x t e = rw e refl

pub skipped-space : (x : ℕ) (t : List ℕ) → is_space x ≡ true → skipped (x ∷ t) ≡ skipped t
unfolding skipped_in
skipped-space x t e = rw e refl

skipped-stop : (x : ℕ) (t : List ℕ) → is_space x ≡ false
    → skipped (x ∷ t) ≡ by_hash (x ∷ t) (strip (35 ∷ []) (x ∷ t))
unfolding skipped_in strip
skipped-stop x t e =
    elim (eqb_tells x 35) [
      | inl is ↦ (let same : eqb 35 x ≡ true = subst (λ (y : ℕ). eqb 35 y ≡ true) (sym is.1) refl in
          rw (e, is.0, same) refl)
      | inr other ↦ rw (e, other.0, ne_eqb 35 x (λ h. other.1 (sym h))) refl
    ]

pub behind_space : (t : List ℕ) → skipped t ≡ by_hash (trimmed t) (strip (35 ∷ []) (trimmed t))
unfolding skipped_in strip
behind_space [] = refl
behind_space (x ∷ t) = by (is_space x) refl (behind_space t)
  where
    by : (b : Bool) → is_space x ≡ b → skipped t ≡ by_hash (trimmed t) (strip (35 ∷ []) (trimmed t))
        → skipped (x ∷ t) ≡ by_hash (trimmed (x ∷ t)) (strip (35 ∷ []) (trimmed (x ∷ t)))
    by true e h = skipped-space x t e ∙ h ∙ ap (λ (u : List ℕ). by_hash u (strip (35 ∷ []) u))
        (sym (trimmed-space x t e))
    by false e h = skipped-stop x t e ∙ ap (λ (u : List ℕ). by_hash u (strip (35 ∷ []) u))
        (sym (trimmed-stop x t e))

-- nothing more is skipped after whitespace if no comment begins there
pub skipped_here : (t at : List ℕ) → at ≡ trimmed t → strip (35 ∷ []) at ≡ None → skipped t ≡ at
skipped_here t at e h = behind_space t ∙ ap (λ (u : List ℕ). by_hash u (strip (35 ∷ []) u)) (sym e)
    ∙ ap (by_hash at) h

-- a comment after whitespace is skipped up to the end of its line
pub skipped_on : (t at c : List ℕ) → at ≡ trimmed t → strip (35 ∷ []) at ≡ Some c
    → skipped t ≡ skipped_all (line_behind c)
skipped_on t at c e h = behind_space t ∙ ap (λ (u : List ℕ). by_hash u (strip (35 ∷ []) u)) (sym e)
    ∙ ap (by_hash at) h ∙ comment c
