-- The texts at a line's end are read exactly.
use Rattle.std.proofs.Common.{◌≡◌, ℕ, suc, ◌-◌, ◌<◌, ◌≤◌, ◌^◌, ◌&&◌, ◌||◌, true, false, cond, eqb}
use Rattle.std.proofs.Common.{ltb, leb, List, [], ◌∷◌, ◌++◌, length, get_or, take, drop, Option}
use Rattle.std.proofs.Common.{Some, None, refl, sym, ap, subst, ◌∙◌, append_assoc, arith, inl, inr}
use Rattle.std.proofs.Common.{lit<}
use Rattle.std.specs.Prelude.{codes, ◌⊎◌, decimal}
use Rattle.std.proofs.lemmas.Bool.{ne_eqb, and_parts, and_from, ltb-true, lt-ltb, le-leb, leb-true}
use Rattle.std.proofs.lemmas.List.{take_at, drop_at, take-append-drop, length-append, length-take}
use Rattle.std.proofs.lemmas.List.{get_or-append_right}
use Rattle.td_text.specs.Chain.{◌>>=◌}
use Rattle.td_text.specs.Cut.{strip}
use Rattle.td_text.specs.Exact.{Exact}
use Rattle.td_text.proofs.Chain.{chained, some_is, when_some, when_none, or_right}
use Rattle.td_text.proofs.Cut.{cut-at, cut_found, Begins}
use Rattle.td_text.proofs.Numbers.{number_exact, Without-decimal}
use Rattle.td_text.proofs.Prefix.{strip_found, strip_again}
use Rattle.td_rows.specs.Notes.{extra_part, text_part, notes, NotesFit, is_boundary, counted_at}
use Rattle.td_rows.specs.Notes.{extra_after, extra_at, text_at, notes_at}

-- ---- the text that ends a line

text_again : (w : List ℕ) → text_at (text_part w) ≡ Some w
unfolding text_at strip
text_again [] = refl
text_again (x ∷ w) =
    rw (
      ne_eqb (suc (length w)) 0 (λ e. omega arith),
      ne_eqb (length (text_part (x ∷ w))) 0 (λ e. omega arith),
    ) refl

text_part-some : (w : List ℕ) → eqb (length w) 0 ≡ false → text_part w ≡ codes " : " ++ w
text_part-some [] h = absurd cc
text_part-some (x ∷ w) h = refl

text_found : (t w : List ℕ) → text_at t ≡ Some w → t ≡ text_part w
unfolding text_at
text_found [] w e = rw (← some_is [] w e) refl
text_found (x ∷ t) w e =
    let q : (strip (codes " : ") (x ∷ t) >>= λ wait. cond (eqb (length wait) 0) None (Some wait))
    ≡ Some w = sym (rw (ne_eqb (suc (length t)) 0 (λ z. omega arith)) refl) ∙ e in
    let a = chained _ _ _ q in
    let b = when_none (eqb (length a.0) 0) (Some a.0) w a.2 in
    strip_found (codes " : ") (x ∷ t) a.0 a.1 ∙ sym (text_part-some a.0 b.0)
    ∙ ap text_part (some_is _ _ b.1)

-- ---- the extra dependencies

extra_part-some : (e : List ℕ) → 0 < length e
    → extra_part e ≡ codes " ;" ++ (decimal (length e) ++ 32 ∷ e)
extra_part-some [] h = absurd (omega arith)
extra_part-some (x ∷ e) h = refl

counted_found : (t : List ℕ) (p : List ℕ × List ℕ) → counted_at t ≡ Some p
    → (t ≡ decimal (length p.0) ++ 32 ∷ (p.0 ++ p.1)) × (0 < length p.0) × (length p.0 < 2 ^ 64)
unfolding counted_at
counted_found t p e =
    let a = chained _ _ _ e in
    let b = chained _ _ _ a.2 in
    let w = when_some (ltb 0 b.0 && is_boundary a.0.1 b.0) (take b.0 a.0.1, drop b.0 a.0.1) p b.2 in
    let q = and_parts (ltb 0 b.0) (is_boundary a.0.1 b.0) w.0 in
    let some = ltb-true 0 b.0 q.0 in
    let le = leb-true b.0 (length a.0.1) (and_parts (leb b.0 (length a.0.1)) _ q.1).0 in
    let n = (number_exact (2 ^ 64 - 1) (lit< tt)).found a.0.0 b.0 b.1 in
    let h = cut_found 32 t a.0 a.1 in
    let len : length (take b.0 a.0.1) ≡ b.0 = omega (arith, length-take b.0 a.0.1) in
    let whole : t ≡ decimal (length (take b.0 a.0.1)) ++ 32 ∷ (take b.0 a.0.1 ++ drop b.0 a.0.1) =
    rw (len, take-append-drop b.0 a.0.1, ← n.0) h.0 in
    subst (λ (y : List ℕ × List ℕ).
    (t ≡ decimal (length y.0) ++ 32 ∷ (y.0 ++ y.1)) × (0 < length y.0) × (length y.0 < 2 ^ 64)) w.1
    (whole, omega arith, omega arith)

tail_ends : (w : List ℕ) → (length (text_part w) ≡ 0) ⊎ (get_or (text_part w) 0 0 ≡ 32)
tail_ends [] = inl refl
tail_ends (x ∷ w) = inr refl

boundary_after : (e w : List ℕ) → is_boundary (e ++ text_part w) (length e) ≡ true
boundary_after e w =
    let within : length e ≤ length (e ++ text_part w) =
    omega (arith, length-append e (text_part w)) in
    let there : get_or (e ++ text_part w) (length e) 0
    ≡ get_or (text_part w) (length e - length e) 0 =
    get_or-append_right e (text_part w) (length e) (length e) 0 refl (omega arith) in
    let none_left : length e - length e ≡ 0 = omega arith in
    let byte : get_or (e ++ text_part w) (length e) 0 ≡ get_or (text_part w) 0 0 =
    there ∙ ap (λ (i : ℕ). get_or (text_part w) i 0) none_left in
    elim (tail_ends w) [
      | inl none ↦
          and_from _ _ (le-leb _ _ within)
          (rw (le-leb (length (e ++ text_part w)) (length e)
          (omega (arith, length-append e (text_part w)))) refl)
      | inr space ↦
          let low : ltb (get_or (e ++ text_part w) (length e) 0) 128 ≡ true =
          lt-ltb _ _ (omega arith) in
          let last : (ltb (get_or (e ++ text_part w) (length e) 0) 128
          || leb 192 (get_or (e ++ text_part w) (length e) 0)) ≡ true = rw low refl in
          and_from _ _ (le-leb _ _ within)
          (or_right (leb (length (e ++ text_part w)) (length e))
          (ltb (get_or (e ++ text_part w) (length e) 0) 128
          || leb 192 (get_or (e ++ text_part w) (length e) 0)) last)
    ]

counted_again : (e w : List ℕ) → 0 < length e → length e < 2 ^ 64
    → counted_at (decimal (length e) ++ 32 ∷ (e ++ text_part w)) ≡ Some (e, text_part w)
unfolding counted_at
counted_again e w some small =
    let boundary : is_boundary (e ++ text_part w) (length e) ≡ true = boundary_after e w in
    rw (
      cut-at 32 (decimal (length e)) (e ++ text_part w)
          (Without-decimal 32 (length e) (lit< tt) small),
      (number_exact (2 ^ 64 - 1) (lit< tt)).again (length e) (omega arith),
      lt-ltb 0 (length e) some,
      boundary,
      take_at e (text_part w) (length e) refl,
      drop_at e (text_part w) (length e) refl,
    ) refl

no_extra : (w : List ℕ) → strip (codes " ;") (text_part w) ≡ None
unfolding strip
no_extra [] = refl
no_extra (x ∷ w) = refl

extra_again : (e w : List ℕ) → length e < 2 ^ 64
    → extra_at (extra_part e ++ text_part w) ≡ Some (e, text_part w)
unfolding extra_at
extra_again [] w small = rw (no_extra w) refl
extra_again (x ∷ e) w small =
    rw (
      append_assoc (codes " ;") (decimal (length (x ∷ e)) ++ 32 ∷ (x ∷ e)) (text_part w),
      strip_again (codes " ;") ((decimal (length (x ∷ e)) ++ 32 ∷ (x ∷ e)) ++ text_part w),
      append_assoc (decimal (length (x ∷ e))) (32 ∷ (x ∷ e)) (text_part w),
    ) (counted_again (x ∷ e) w (omega arith) small)

extra_by : (t : List ℕ) (o : Option (List ℕ)) (p : List ℕ × List ℕ) → strip (codes " ;") t ≡ o
    → extra_after t o ≡ Some p → (t ≡ extra_part p.0 ++ p.1) × (length p.0 < 2 ^ 64)
extra_by t None p is e =
    subst (λ (y : List ℕ × List ℕ). (t ≡ extra_part y.0 ++ y.1) × (length y.0 < 2 ^ 64))
    (some_is ([], t) p e) (refl, lit< tt)
extra_by t (Some rest) p is e =
    let h = counted_found rest p e in (
      strip_found (codes " ;") t rest is
          ∙ ap (λ (l : List ℕ). codes " ;" ++ l)
          (h.0 ∙ sym (append_assoc (decimal (length p.0)) (32 ∷ p.0) p.1))
          ∙ sym (append_assoc (codes " ;") (decimal (length p.0) ++ 32 ∷ p.0) p.1)
          ∙ ap (λ (l : List ℕ). l ++ p.1) (sym (extra_part-some p.0 h.1)),
      h.2,
    )

extra_found : (t : List ℕ) (p : List ℕ × List ℕ) → extra_at t ≡ Some p
    → (t ≡ extra_part p.0 ++ p.1) × (length p.0 < 2 ^ 64)
unfolding extra_at
extra_found t p e = extra_by t (strip (codes " ;") t) p refl e

-- ---- both

notes_found : (t : List ℕ) (n : List ℕ × List ℕ) → notes_at t ≡ Some n → (t ≡ notes n) × NotesFit n
unfolding notes_at
notes_found t n e =
    let a = chained _ _ _ e in
    let b = chained _ _ _ a.2 in
    let x = extra_found t a.0 a.1 in
    let w = text_found a.0.1 b.0 b.1 in
    subst (λ (y : List ℕ × List ℕ). (t ≡ notes y) × NotesFit y) (some_is _ n b.2)
    (x.0 ∙ ap (λ (l : List ℕ). extra_part a.0.0 ++ l) w, x.1)

notes_again : (n : List ℕ × List ℕ) → NotesFit n → notes_at (notes n) ≡ Some n
unfolding notes_at
notes_again n small = rw (extra_again n.0 n.1 small, text_again n.1) refl

pub notes_exact : Exact notes_at notes NotesFit
notes_exact = record { found = notes_found; again = notes_again }

-- notes are empty or begin with a space
pub notes_begin : (n : List ℕ × List ℕ) → Begins 32 (notes n)
notes_begin ([], []) = tt
notes_begin ([], x ∷ w) = refl
notes_begin (x ∷ e, w) = refl
