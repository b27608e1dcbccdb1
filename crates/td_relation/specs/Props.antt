-- Whether a table names no architecture twice is a fact that can be kept in a value.
-- This project's own.
use mathlib.Core.Bool.{Bool-set}
use mathlib.Core.HLevel.{×_prop, Unit-prop}
use Rattle.std.specs.Prelude.{List, [], ◌∷◌, ◌++◌}
use Rattle.td_relation.specs.Arch.{ArchWords}
use Rattle.td_relation.specs.Table.{Fresh, IsApart}

-- that architectures are named neither before nor twice is so in one way at most
Fresh-prop : (seen archs : List ArchWords) → IsProp (Fresh seen archs)
Fresh-prop seen [] = Unit-prop
Fresh-prop seen (a ∷ archs) = ×_prop (Bool-set _ _) (Fresh-prop (seen ++ a ∷ []) archs)

-- that a table names no architecture twice is so in one way at most
pub IsApart-prop : (table : List ArchWords) → IsProp (IsApart table)
IsApart-prop table = Fresh-prop [] table
