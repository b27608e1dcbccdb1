-- Where a pattern ends.
use Rattle.std.proofs.Common.{◌≡◌, ◌≢◌, ℕ, suc, ◌+◌, ◌<◌, subst, Bool, true, false, not, eqb, ◌&&◌}
use Rattle.std.proofs.Common.{List, [], length, get_or, drop, Option, Some, None, option_map, refl}
use Rattle.std.proofs.Common.{sym, ap, ◌∙◌, add-one, arith}
use Rattle.std.proofs.lemmas.Bool.{ne_eqb}
use Rattle.std.specs.Str.{IsUtf8, IsCharBoundary}
use Rattle.std.proofs.lemmas.Str.{IsCharBoundary-before_ascii, IsCharBoundary-after_ascii}
use Rattle.std.proofs.lemmas.Str.{IsUtf8-drop}
use Rattle.std.proofs.Math.Seq.{drop-cons}
use Rattle.td_query.specs.Tokens.{pattern_end}

-- the place in what follows the first bytes, as one in the whole
abbrev pub moved : ℕ → Option ℕ → Option ℕ
moved i o = option_map (λ n. i + n) o

moved_on : (i : ℕ) (o : Option ℕ) → moved i (option_map (λ n. n + 1) o) ≡ moved (i + 1) o
moved_on i None = refl
moved_on i (Some n) = ap (λ (m : ℕ). Some m) (omega arith)

-- a slash that isn't escaped ends a pattern
pub ends_here : (t : List ℕ) (i : ℕ) → i < length t → get_or t i 0 ≡ 47
    → moved i (pattern_end false (drop i t)) ≡ Some i
unfolding pattern_end
ends_here t i h e = rw (drop-cons t i 0 h, e) (ap (λ (m : ℕ). Some m) (omega arith))

-- any other byte is passed, and what follows it decides
pub goes_on : (escaped : Bool) (t : List ℕ) (i : ℕ) → i < length t
    → (eqb (get_or t i 0) 47 && not escaped) ≡ false → moved i (pattern_end escaped (drop i t))
    ≡ moved (i + 1) (pattern_end (eqb (get_or t i 0) 92) (drop (i + 1) t))
unfolding pattern_end
goes_on escaped t i h e = rw (drop-cons t i 0 h, e, add-one)
    (moved_on i (pattern_end (eqb (get_or t i 0) 92) (drop (suc i) t)) ∙ rw add-one refl)

-- if no byte is left, no slash ends the pattern
pub ends_never : (escaped : Bool) (t : List ℕ) (i : ℕ) → drop i t ≡ []
    → moved i (pattern_end escaped (drop i t)) ≡ None
unfolding pattern_end
ends_never escaped t i e = rw e refl

-- what doesn't close a pattern: a slash after a backslash, and another byte
pub escaped_on : (x : ℕ) (escaped : Bool) → escaped ≡ true → (eqb x 47 && not escaped) ≡ false
escaped_on x escaped e =
    rw e (elim (eqb x 47) as (λ b. (b && false) ≡ false) [ true ↦ refl | false ↦ refl ])

pub other_on : (x : ℕ) (escaped : Bool) → x ≢ 47 → (eqb x 47 && not escaped) ≡ false
other_on x escaped h = rw (ne_eqb x 47 h) refl

-- a text may be cut before a slash
pub boundary_at_slash : (t : List ℕ) (i : ℕ) → i < length t → get_or t i 0 ≡ 47 → IsCharBoundary t i
boundary_at_slash t i h e = IsCharBoundary-before_ascii t i h (omega arith)

-- a text that begins with a slash may be cut after it
pub boundary_behind_slash : (t rest : List ℕ) (i : ℕ) → IsUtf8 t → i < length t → get_or t i 0 ≡ 47
    → rest ≡ drop i t → IsCharBoundary rest 1
boundary_behind_slash t rest i utf8 h e back =
    let text : IsUtf8 (drop i t) = IsUtf8-drop t i utf8 (boundary_at_slash t i h e) in
    let whole = drop-cons t i 0 h in
    let first : get_or (drop i t) 0 0 < 128 = rw (whole, e) (omega arith) in
    let some : 0 < length (drop i t) = rw whole (omega arith) in
    subst (λ (l : List ℕ). IsCharBoundary l 1) (sym back)
    (IsCharBoundary-after_ascii (drop i t) 0 text some first)
