-- Lines, the last of which may lack its newline.
use Rattle.std.proofs.Common.{◌≡◌, ℕ, ◌<◌, eqb, List, [], ◌∷◌, ◌++◌, length, Option, Some, None}
use Rattle.std.proofs.Common.{refl, ap, ◌∙◌, arith}
use Rattle.std.specs.Prelude.{◌≢◌}
use Rattle.std.specs.Borrow.{Bor}
use Rattle.std.proofs.lemmas.List.Splits.{length-slice_split}
use Rattle.td_text.specs.Lines.{lines_of, lines_left, left_text, ended}

-- a text has a line
pub has_line : (t : List ℕ) → 0 < length (lines_of t)
has_line t = omega (arith, length-slice_split (λ b. eqb b 10) t)

-- nothing stands behind the last line
pub ended-none : ended (lines_of []) ≡ ended []
unfolding ended
ended-none = refl

ended-filled : (line : List ℕ) (lines : List (List ℕ)) → 0 < length lines
    → ended (line ∷ lines) ≡ line ∷ ended lines
unfolding ended
ended-filled [] [] some = absurd (omega arith)
ended-filled [] (next ∷ lines) some = refl
ended-filled (x ∷ line) lines some = refl

pub ended-empty : (t : List ℕ) → t ≡ [] → ended (lines_of t) ≡ []
unfolding ended
ended-empty t none = ap (λ (l : List ℕ). ended (lines_of l)) none

-- a text that isn't empty has its first line
pub ended-next : (t line : List ℕ) (o : Option (Bor (List ℕ))) → lines_of t ≡ line ∷ lines_left o
    → t ≡ line ++ left_text o → t ≢ [] → ended (lines_of t) ≡ line ∷ ended (lines_left o)
unfolding ended
ended-next t line (Some rest) is whole some =
    ap ended is ∙ ended-filled line (lines_of rest.now) (has_line rest.now)
ended-next t [] None is whole some = absurd (some whole)
ended-next t (x ∷ line) None is whole some = ap ended is
