-- The first item of a list, and the others: what equal lists agree on.
use Rattle.std.proofs.Common.{List, [], ◌∷◌}

-- the first of some items, or another
abbrev pub first_of : {A : Type 0} → A → List A → A
first_of d [] = d
first_of d (x ∷ xs) = x

-- the items after the first
abbrev pub rest_of : {A : Type 0} → List A → List A
rest_of [] = []
rest_of (x ∷ xs) = xs
