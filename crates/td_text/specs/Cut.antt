-- A text that is cut at a byte, or after a prefix. This project's own.
use Rattle.std.specs.Prelude.{◌≢◌, ℕ, ◌==◌, List, [], ◌∷◌, Option, Some, None, if◌then◌else◌}
use Rattle.std.specs.List.{AllByRecursion}
use Rattle.td_text.specs.Chain.{◌>>=◌}

-- the text has no byte c
abbrev pub Without : ℕ → List ℕ → Type 0
Without c text = AllByRecursion (λ x. x ≢ c) text

-- the text before the first c, and the text after it
unfoldable pub cut : ℕ → List ℕ → Option (List ℕ × List ℕ)
cut c [] = None
cut c (x ∷ xs) = if x == c then Some ([], xs) else (cut c xs >>= λ p. Some (x ∷ p.0, p.1))

-- the text before the first c, and the text from there on
unfoldable pub part : ℕ → List ℕ → List ℕ × List ℕ
part c [] = ([], [])
part c (x ∷ xs) = if x == c then ([], x ∷ xs) else (x ∷ (part c xs).0, (part c xs).1)

-- what follows the prefix
unfoldable pub strip : List ℕ → List ℕ → Option (List ℕ)
strip [] text = Some text
strip (p ∷ ps) [] = None
strip (p ∷ ps) (x ∷ xs) = if p == x then strip ps xs else None
