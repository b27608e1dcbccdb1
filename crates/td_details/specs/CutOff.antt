-- Indices that may be cut off. This project's own: whatever writes an index ends its last line.
use Rattle.std.specs.Prelude.{ℕ, ◌==◌, not, Bool, false, List, [], ◌∷◌, ◌++◌, codes}
use Rattle.std.specs.Prelude.{if◌then◌else◌}

-- whether a text has bytes, and the last one is no newline
abbrev pub is_cut_off : List ℕ → Bool
is_cut_off [] = false
is_cut_off (x ∷ []) = not (x == 10)
is_cut_off (x ∷ y ∷ text) = is_cut_off (y ∷ text)

-- the warning of an index whose last line has no newline
abbrev pub cut_line : List ℕ → List ℕ
cut_line index =
    codes "warning: " ++ (index
    ++ codes " doesn't end with a newline: it may be cut off")

-- the warning of an index, if it may be cut off
abbrev pub cut_at : List ℕ → Bool → List (List ℕ)
cut_at index cut = if cut then cut_line index ∷ [] else []

-- the warnings of Packages and of Sources, by whether each may be cut off
abbrev pub cut_lines : Bool → Bool → List (List ℕ)
cut_lines packages sources =
    cut_at (codes "Packages") packages ++ cut_at (codes "Sources") sources
