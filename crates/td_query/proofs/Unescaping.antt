-- A pattern's source, piece by piece.
use Rattle.std.proofs.Common.{◌≡◌, ◌≢◌, ℕ, zero, suc, ◌+◌, false, eqb, List, [], ◌∷◌, ◌++◌}
use Rattle.std.proofs.Common.{length, get_or, take, Option, Some, None, append_assoc}
use Rattle.std.proofs.Common.{refl, sym, ap, ◌∙◌, inl, inr, arith}
use Rattle.std.specs.Borrow.{Bor}
use Rattle.std.proofs.lemmas.Bool.{and_right, ne_eqb}
use Rattle.std.proofs.lemmas.List.{append-nil}
use Rattle.std.proofs.lemmas.Bool.Decides.{eqb_tells}
use Rattle.td_text.specs.Cut.{Without}
use Rattle.td_query.specs.Sources.{begins_slash, unescaped, without_last}

-- what is left to unescape; None: nothing
abbrev pub unescaped_left : Option (Bor (List ℕ)) → List ℕ
unescaped_left None = []
unescaped_left (Some t) = unescaped t.now

begins_other : (t : List ℕ) → Without 47 t → begins_slash t ≡ false
begins_other [] w = refl
begins_other (x ∷ t) w = ne_eqb x 47 w.0

-- without a slash nothing is escaped
pub unescaped_plain : (t : List ℕ) → Without 47 t → unescaped t ≡ t
unfolding unescaped
unescaped_plain [] w = refl
unescaped_plain (x ∷ t) w =
    rw (and_right (eqb x 92) (begins_slash t) (begins_other t w.1), unescaped_plain t w.1) refl

-- a piece that comes before a slash loses a backslash at its end
pub unescaped_piece : (p b : List ℕ) → Without 47 p
    → unescaped (p ++ 47 ∷ b) ≡ without_last p ++ 47 ∷ unescaped b
unfolding unescaped without_last
unescaped_piece [] b w = refl
unescaped_piece (x ∷ []) b w =
    elim (eqb_tells x 92) [
      | inl is ↦ rw is.0 refl
      | inr other ↦ rw other.0 refl
    ]
unescaped_piece (x ∷ y ∷ p) b w =
    rw (and_right (eqb x 92) (eqb y 47) (ne_eqb y 47 w.1.0))
    (ap (λ (l : List ℕ). x ∷ l) (unescaped_piece (y ∷ p) b w.1))

-- ---- the last byte of a text

pub without_last_none : (t : List ℕ) → length t ≡ 0 → t ≡ without_last t
unfolding without_last
without_last_none [] h = refl
without_last_none (x ∷ t) h = absurd (omega arith)

pub without_last_is : (t : List ℕ) (n : ℕ) → n + 1 ≡ length t → get_or t n 0 ≡ 92
    → take n t ≡ without_last t
unfolding without_last
without_last_is [] n h e = absurd (omega arith)
without_last_is (x ∷ []) zero h e = rw e refl
without_last_is (x ∷ []) (suc n) h e = absurd (omega arith)
without_last_is (x ∷ y ∷ t) zero h e = absurd (omega arith)
without_last_is (x ∷ y ∷ t) (suc n) h e =
    ap (λ (l : List ℕ). x ∷ l) (without_last_is (y ∷ t) n (omega arith) e)

pub without_last_not : (t : List ℕ) (n : ℕ) → n + 1 ≡ length t → get_or t n 0 ≢ 92
    → t ≡ without_last t
unfolding without_last
without_last_not [] n h e = absurd (omega arith)
without_last_not (x ∷ []) zero h e = rw (ne_eqb x 92 e) refl
without_last_not (x ∷ []) (suc n) h e = absurd (omega arith)
without_last_not (x ∷ y ∷ t) zero h e = absurd (omega arith)
without_last_not (x ∷ y ∷ t) (suc n) h e =
    ap (λ (l : List ℕ). x ∷ l) (without_last_not (y ∷ t) n (omega arith) e)

-- ---- one piece more

pub last_put : (out next t whole : List ℕ) → Without 47 t → next ≡ out ++ t
    → out ++ unescaped t ≡ whole → next ++ [] ≡ whole
last_put out next t whole w e h = append-nil next ∙ e
    ∙ ap (λ (l : List ℕ). out ++ l) (sym (unescaped_plain t w)) ∙ h

pub piece_put : (out first second piece bare t after whole : List ℕ) → t ≡ piece ++ 47 ∷ after
    → Without 47 piece → bare ≡ without_last piece → first ≡ out ++ bare → second ≡ first ++ 47 ∷ []
    → out ++ unescaped t ≡ whole → second ++ unescaped after ≡ whole
piece_put out first second piece bare t after whole cut w is e f h =
    rw (f, e, is) (append_assoc (out ++ without_last piece) (47 ∷ []) (unescaped after)
    ∙ append_assoc out (without_last piece) (47 ∷ unescaped after)
    ∙ ap (λ (l : List ℕ). out ++ l) (sym (ap unescaped cut ∙ unescaped_piece piece after w)) ∙ h)
