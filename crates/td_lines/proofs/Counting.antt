-- A note by its pieces, and the notes of the lines that are left.
use Rattle.std.proofs.Common.{◌≡◌, ℕ, ◌+◌, List, [], ◌∷◌, ◌++◌, Option, Some, None, ap, sym, ◌∙◌}
use Rattle.std.proofs.Common.{append-nil, refl, Result, Ok, Err, OnOk}
use Rattle.std.specs.Prelude.{codes, decimal, if◌then◌else◌, is_ok}
use Rattle.std.specs.Borrow.{Bor}
use Rattle.std.proofs.lemmas.List.{append_assoc}
use Rattle.td_supply.specs.Supply.{Stock}
use Rattle.td_text.specs.Lines.{lines_left, lines_of}
use Rattle.td_lines.specs.Notes.{line_notes, note, notes_from}

-- a note is its front, what is said, and the end of its line
pub is_note : {T E : Type 0} (r : Result T E) (number : ℕ) (said before front told after : List ℕ)
    → front ≡ before ++ (codes "line " ++ (decimal number ++ codes ": ")) → told ≡ front ++ said
    → after ≡ (if is_ok r then told ++ codes "\n" else told)
    → OnOk r (after ≡ before ++ note number said)
is_note (Ok x) number said before front told after begun more ended =
    let mark = codes "line " ++ (decimal number ++ codes ": ") in
    let rest = said ++ codes "\n" in
    ended ∙ ap (λ l. l ++ codes "\n") (more ∙ ap (λ l. l ++ said) begun)
    ∙ append_assoc (before ++ mark) said (codes "\n") ∙ append_assoc before mark rest
    ∙ ap (λ l. before ++ (codes "line " ++ l)) (append_assoc (decimal number) (codes ": ") rest)
is_note (Err e) number said before front told after begun more ended = tt

after_one : (s : Stock) (suite : List ℕ) (number : ℕ) (line : List ℕ) (after : List (List ℕ))
    → notes_from s suite number (line ∷ after)
    ≡ line_notes s suite number line ++ notes_from s suite (number + 1) after
unfolding notes_from
after_one s suite number line after = refl

-- the next line's notes are appended
pub goes_on : (s : Stock) (suite : List ℕ) (number : ℕ) (o : Option (Bor (List ℕ)))
    (t : Bor (List ℕ)) (line : List ℕ) (after : List (List ℕ)) (before grown total : List ℕ)
    → o ≡ Some t → lines_of t.now ≡ line ∷ after → grown ≡ before ++ line_notes s suite number line
    → before ++ notes_from s suite number (lines_left o) ≡ total
    → grown ++ notes_from s suite (number + 1) after ≡ total
goes_on s suite number o t line after before grown total is cut more so =
    let rest = notes_from s suite (number + 1) after in
    ap (λ x. x ++ rest) more ∙ append_assoc before (line_notes s suite number line) rest
    ∙ ap (λ x. before ++ x) (sym (ap (λ x. notes_from s suite number (lines_left x)) is
    ∙ ap (notes_from s suite number) cut ∙ after_one s suite number line after)) ∙ so

-- no line is left
pub ends : (s : Stock) (suite : List ℕ) (number : ℕ) (o : Option (Bor (List ℕ)))
    (before total : List ℕ) → o ≡ None
    → before ++ notes_from s suite number (lines_left o) ≡ total → before ≡ total
unfolding notes_from
ends s suite number None before total is so = sym (append-nil before) ∙ so
ends s suite number (Some t) before total is so = absurd cc
