-- The number under which the rows of a source are rebuilt. This project's own: packages that are
-- `Multi-Arch: same` can be installed together only where their versions are the same.
use Rattle.std.specs.Prelude.{ℕ, ◌+◌, ◌++◌, ◌∷◌, [], nat_lt, Bool, List, Option, Some, None}
use Rattle.std.specs.Prelude.{filter, fold, max, if◌then◌else◌}
use Rattle.std.specs.List.{flat_map, list_all}
use Rattle.td_rows.specs.declared.row.Row.{Row}
use Rattle.td_indices.specs.Opening.{current_numbers}
use Rattle.td_indices.specs.Sources.{KeptSource}
use Rattle.td_plan.specs.Premises.{Premises, places, row_at}

-- the number of a row, if there is one
abbrev pub number_if : Option Row → List ℕ
number_if None = []
number_if (Some row) = row.number ∷ []

-- the numbers that a source has on the architecture at a place: that of its row, and those of the
-- packages there that were built from its present version
abbrev pub numbers_at : Premises → KeptSource → ℕ → List ℕ
numbers_at p s place = number_if (row_at p s place) ++ current_numbers p.archive s place

-- the numbers that a source has on the architectures of the table that pass a test
abbrev pub numbers_where : (ℕ → Bool) → Premises → KeptSource → List ℕ
numbers_where test p s = flat_map (numbers_at p s) (filter test (places p))

-- the numbers that a source has anywhere in the table
abbrev pub all_numbers : Premises → KeptSource → List ℕ
all_numbers p s = flat_map (numbers_at p s) (places p)

-- the greatest of numbers; 0 if there are none
abbrev pub greatest : List ℕ → ℕ
greatest numbers = fold max 0 numbers

-- the greatest number of the source if it is above each number on the architectures that are
-- rebuilt, which a test says; else one more
abbrev pub number_over : (ℕ → Bool) → Premises → KeptSource → ℕ
number_over test p s = let top = greatest (all_numbers p s) in
    if list_all (λ n. nat_lt n top) (numbers_where test p s) then top else top + 1
