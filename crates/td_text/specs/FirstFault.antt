-- The first line with a fault. This project's own.
use Rattle.std.specs.Prelude.{◌≡◌, ℕ, ◌+◌, List, ◌∷◌, ◌++◌, Result, Ok, Err, length}
use Rattle.td_text.specs.Lines.{over_lines}

-- the lines before one are read, and at that one the step over lines has the fault e; the first of
-- the lines has the number given
pub record FirstFault {S F : Type 0} (step : ℕ → S → List ℕ → Result S F) (number : ℕ) (seen : S)
    (lines : List (List ℕ)) (e : F) : Type 0 where
  pub before : List (List ℕ)
  pub line : List ℕ
  pub after : List (List ℕ)
  pub so_far : S
  pub parts : lines ≡ before ++ line ∷ after
  pub fine : over_lines step number seen before ≡ Ok so_far
  pub fault : step (number + length before) so_far line ≡ Err e
