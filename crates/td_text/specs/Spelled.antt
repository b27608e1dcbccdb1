-- Lines that stand for values, each a line. This project's own.
use Rattle.std.specs.Prelude.{◌≡◌, ◌≢◌, ℕ, ◌+◌, List, ◌∷◌, ◌++◌, map, length}
use Rattle.std.specs.List.{AllByRecursion}

-- the lines are the spellings of these values, in this order, and each value fits
pub record AreSpelled {V : Type 0} (spell : V → List ℕ) (Fits : V → Type 0)
    (lines : List (List ℕ)) (vs : List V) : Type 0 where
  pub spelled : lines ≡ map spell vs
  pub fits : AllByRecursion Fits vs

-- the first of the lines that spells no value that fits; the first of all has the number given
pub record IsFirstOther {V : Type 0} (spell : V → List ℕ) (Fits : V → Type 0) (first : ℕ)
    (lines : List (List ℕ)) (number : ℕ) : Type 0 where
  pub before : List V
  pub line : List ℕ
  pub after : List (List ℕ)
  pub parts : lines ≡ map spell before ++ line ∷ after
  pub fits : AllByRecursion Fits before
  pub other : (v : V) → Fits v → line ≢ spell v
  pub counted : number ≡ first + length before
