-- The members of a relation, each a list of alternatives. Policy 7.1.
use Rattle.std.specs.Prelude.{ℕ, ◌+◌, List, [], ◌∷◌, map, take, drop}
use Rattle.td_relation.specs.declared.relation.Relation.{Relation}
use Rattle.td_relation.specs.Asked.{Asked, asked}

-- a list cut into pieces of these lengths, one after the other
abbrev pub chunked : {A : Type 0} → List ℕ → List A → List (List A)
chunked [] xs = []
chunked (n ∷ ns) xs = take n xs ∷ chunked ns (drop n xs)

-- the members that a `Relation` holds
abbrev pub members : Relation → List (List Asked)
members r = map (λ m. map asked m) (chunked r.sizes.items r.alternatives.items)

-- how many alternatives members of these sizes have
abbrev pub total : List ℕ → ℕ
total [] = 0
total (n ∷ ns) = n + total ns
