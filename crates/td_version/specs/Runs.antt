-- The pairs of a part are its runs of symbols and digits in turn.
-- deb-version(7), Sorting algorithm.
use Rattle.std.specs.Prelude.{◌≡◌, ℕ, ◌+◌, ◌<◌, not, List, [], ◌∷◌, ◌++◌, IsTrue, length}
use Rattle.std.specs.Char.{is_ascii_digit}
use Rattle.std.specs.List.{AllByRecursion, flat_map, list_all}
use Rattle.std.specs.Str.{all_ascii_digits}
use Rattle.td_version.specs.Order.{Pair, pairs}

-- symbols aren't digits, and digits are
abbrev pub IsPair : Pair → Type 0
IsPair p = IsTrue (list_all (λ b. not (is_ascii_digit b)) p.symbols)
    × IsTrue (all_ascii_digits p.digits)

-- Only the first pair may lack symbols, and only the last may lack digits.
abbrev pub AreInTurn : List Pair → Type 0
AreInTurn [] = Unit {0}
AreInTurn (p ∷ []) = 0 < length p.symbols + length p.digits
AreInTurn (p ∷ q ∷ ps) = (0 < length p.digits) × (0 < length q.symbols) × AreInTurn (q ∷ ps)

-- These pairs, one after another, are the part.
pub record AreRunsOf (part : List ℕ) (ps : List Pair) : Type 0 where
  pub joined : flat_map (λ p. p.symbols ++ p.digits) ps ≡ part
  pub each : AllByRecursion IsPair ps
  pub in_turn : AreInTurn ps

-- The pairs by which parts are compared are their runs.
abbrev pub PairsAreRuns : Type 0
PairsAreRuns = (part : List ℕ) → AreRunsOf part (pairs part)
