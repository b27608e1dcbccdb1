-- The levels that were found. This project's own.
use Rattle.std.specs.Prelude.{◌≡◌, ℕ, ◌==◌, List, slice_index_or, Option, slice_get}
use Rattle.std.specs.Prelude.{option_map, if◌then◌else◌}
use Rattle.td_waves.specs.declared.level.Level.{Level}
use Rattle.td_waves.specs.declared.level.Level.TheVariants.{At, Cyclic}
use Rattle.td_waves.specs.declared.placing.Levelling.{Levelling}

-- the level with a number; 0 for none
abbrev pub numbered : ℕ → Level
numbered number = if number == 0 then Cyclic else At number

-- the level that was found for a node
abbrev pub level_of : Levelling → ℕ → Option Level
level_of levelling node = option_map numbered (slice_get levelling.numbers.items node)

-- some item is the number
abbrev pub HasNumber : List ℕ → ℕ → Type 0
HasNumber numbers n = (i : ℕ) × (slice_index_or numbers i 0 ≡ n)
