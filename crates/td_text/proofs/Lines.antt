-- Texts line by line.
use Rattle.std.proofs.Common.{◌≡◌, ℕ, ◌+◌, List, [], ◌∷◌, ◌++◌, Option, Some, None, Result, Ok}
use Rattle.std.proofs.Common.{Err, refl, sym, ap, ◌∙◌, append_assoc}
use Rattle.std.specs.Borrow.{Bor}
use Rattle.std.specs.List.{AllByRecursion}
use Rattle.td_text.specs.Cut.{Without}
use Rattle.td_text.specs.Lines.{lines_of, text_of, over_lines, lines_left}
use Rattle.td_text.proofs.Cut.{pieces-cons, pieces-one}

-- ---- the first line and the others

pub lines_of-cons : (line rest : List ℕ) → Without 10 line
    → lines_of (line ++ 10 ∷ rest) ≡ line ∷ lines_of rest
lines_of-cons line rest w = pieces-cons 10 line rest w

pub lines_of-one : (line : List ℕ) → Without 10 line → lines_of line ≡ line ∷ []
lines_of-one line w = pieces-one 10 line w

-- lines that were written are read again; behind the last newline stands an empty one
pub lines_of-text_of : (lines : List (List ℕ)) → AllByRecursion (Without 10) lines
    → lines_of (text_of lines) ≡ lines ++ [] ∷ []
lines_of-text_of [] w = lines_of-one [] tt
lines_of-text_of (line ∷ lines) w =
    ap lines_of (append_assoc line (10 ∷ []) (text_of lines))
    ∙ lines_of-cons line (text_of lines) w.0
    ∙ ap (λ (l : List (List ℕ)). line ∷ l) (lines_of-text_of lines w.1)

-- ---- the steps over lines

-- what is left of a text begins with its next line
pub taken : {S F : Type 0} (step : ℕ → S → List ℕ → Result S F) (n : ℕ) (seen : S)
    (o : Option (Bor (List ℕ))) (t : Bor (List ℕ)) (line : List ℕ) (after : List (List ℕ))
    (total : Result S F)
    → o ≡ Some t → lines_of t.now ≡ line ∷ after → over_lines step n seen (lines_left o) ≡ total
    → over_lines step n seen (line ∷ after) ≡ total
taken step n seen o t line after total is cut h =
    sym (ap (over_lines step n seen) (ap lines_left is ∙ cut)) ∙ h

-- a step that read its line
pub stepped : {S F : Type 0} (step : ℕ → S → List ℕ → Result S F) (n : ℕ) (seen more : S)
    (line : List ℕ) (after : List (List ℕ)) (total : Result S F)
    → step n seen line ≡ Ok more → over_lines step n seen (line ∷ after) ≡ total
    → over_lines step (n + 1) more after ≡ total
unfolding over_lines
stepped step n seen more line after total is h = sym (rw is refl) ∙ h

-- a step that left what was seen as it was
pub skips : {S F : Type 0} (step : ℕ → S → List ℕ → Result S F) (n : ℕ) (seen : S) (line : List ℕ)
    (after : List (List ℕ)) (total : Result S F)
    → step n seen line ≡ Ok seen → over_lines step n seen (line ∷ after) ≡ total
    → over_lines step (n + 1) seen after ≡ total
skips step n seen line after total is h = stepped step n seen seen line after total is h

-- a step with a fault
pub fails : {S F : Type 0} (step : ℕ → S → List ℕ → Result S F) (n : ℕ) (seen : S) (line : List ℕ)
    (after : List (List ℕ)) (total : Result S F) (e : F)
    → step n seen line ≡ Err e → over_lines step n seen (line ∷ after) ≡ total → total ≡ Err e
unfolding over_lines
fails step n seen line after total e is h = sym h ∙ rw is refl

-- no line is left
pub ends : {S F : Type 0} (step : ℕ → S → List ℕ → Result S F) (n : ℕ) (seen : S)
    (o : Option (Bor (List ℕ))) (total : Result S F)
    → o ≡ None → over_lines step n seen (lines_left o) ≡ total → total ≡ Ok seen
unfolding over_lines
ends step n seen None total is h = sym h
ends step n seen (Some t) total is h = absurd cc
