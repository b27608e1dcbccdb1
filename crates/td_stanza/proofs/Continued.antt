-- What is left after a line, and after the lines that continue a field.
use Rattle.std.proofs.Common.{◌≡◌, ℕ, true, ◌+◌, ◌≤◌, List, [], ◌∷◌, ◌++◌, length, Option, Some}
use Rattle.std.proofs.Common.{None, refl, sym, ap, ◌∙◌, append_assoc, arith}
use Rattle.std.specs.Prelude.{IsTrue}
use Rattle.std.specs.Borrow.{Bor}
use Rattle.std.specs.List.{AllByRecursion}
use Rattle.std.proofs.lemmas.List.{append-nil, length-append}
use Rattle.std.proofs.lemmas.List.Concat.{flat_map-append}
use Rattle.td_text.specs.Lines.{lines_of, lines_left, left_text, left_len}
use Rattle.td_stanza.specs.Line.{is_continuation, first_line}
use Rattle.td_stanza.specs.Value.{after_newlines}
use Rattle.td_stanza.specs.Continuing.{Skips}

all_more : (more : List (List ℕ)) (line : List ℕ)
    → AllByRecursion (λ l. IsTrue (is_continuation l)) more → IsTrue (is_continuation line)
    → AllByRecursion (λ l. IsTrue (is_continuation l)) (more ++ line ∷ [])
all_more [] line h is = (is, tt)
all_more (l ∷ more) line h is = (h.0, all_more more line h.1 is)

-- one more line that continues the field
pub skips_line : (after rest next : Option (Bor (List ℕ))) (here : Bor (List ℕ)) (line : List ℕ)
    → Skips after rest → rest ≡ Some here → lines_of here.now ≡ line ∷ lines_left next
    → here.now ≡ line ++ left_text next → is_continuation (first_line (lines_of here.now)) ≡ true
    → Skips after next
skips_line after rest next here line s is lines text more = record {
  more = s.more ++ line ∷ [];
  lines = s.lines ∙ ap (λ (o : Option (Bor (List ℕ))). s.more ++ lines_left o) is
      ∙ ap (λ (l : List (List ℕ)). s.more ++ l) lines
      ∙ sym (append_assoc s.more (line ∷ []) (lines_left next));
  text =
      s.text ∙ ap (λ (o : Option (Bor (List ℕ))). after_newlines s.more ++ left_text o) is
      ∙ ap (λ (t : List ℕ). after_newlines s.more ++ 10 ∷ t) text
      ∙ sym (append_assoc (after_newlines s.more) (10 ∷ line) (left_text next))
      ∙ ap (λ (t : List ℕ). t ++ left_text next)
      (ap (λ (t : List ℕ). after_newlines s.more ++ t) (sym (append-nil (10 ∷ line)))
      ∙ sym (flat_map-append (λ l. 10 ∷ l) s.more (line ∷ [])));
  continued = all_more s.more line s.continued
      (ap (λ (l : List (List ℕ)). is_continuation (first_line l)) (sym lines) ∙ more);
}

left_len-is : (o : Option (Bor (List ℕ))) → left_len o ≡ length (left_text o)
left_len-is None = refl
left_len-is (Some rest) = omega arith

pub skips_shorter : (after rest : Option (Bor (List ℕ))) → Skips after rest
    → left_len rest ≤ left_len after
skips_shorter after rest s =
    let sum : length (left_text after) ≡ length (after_newlines s.more) + length (left_text rest) =
    ap length s.text ∙ length-append (after_newlines s.more) (left_text rest) in
    let a = left_len-is after in let b = left_len-is rest in omega arith
