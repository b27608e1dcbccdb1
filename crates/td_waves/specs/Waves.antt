-- The waves of affected sources: in which level each can be rebuilt. This project's own.
use Rattle.std.specs.Prelude.{ℕ, IsTrue, List, Option, None}
use Rattle.std.specs.Borrow.{Bor}
use Rattle.std.specs.Option.{option_map_or}
use Rattle.td_indices.specs.Archive.{Contents}
use Rattle.td_waves.specs.declared.level.Level.{Level}
use Rattle.td_waves.specs.declared.placing.Levelling.{Levelling}
use Rattle.td_waves.specs.BuildsOn.{builds_on}
use Rattle.td_waves.specs.Levelling.{level_of as level_of_number}
use Rattle.td_waves.specs.Named.{is_among, number_among}

-- the affected sources are those with these names
abbrev pub IsAffected : List (Bor (List ℕ)) → List ℕ → Type 0
IsAffected affected source = IsTrue (is_among affected source)

-- a source builds on another, by what the archive holds
abbrev pub BuildsOn : Contents → List ℕ → List ℕ → Type 0
BuildsOn a s t = IsTrue (builds_on a s t)

-- the level that was found for a name
abbrev pub level_among : List (Bor (List ℕ)) → Levelling → List ℕ → Option Level
level_among names levels source = option_map_or (level_of_number levels)
    (number_among names source) None
