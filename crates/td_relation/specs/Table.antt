-- The table of architectures: their lines, and its places. This project's own.
use Rattle.std.specs.Prelude.{◌≡◌, ℕ, ◌==◌, ◌||◌, Bool, false, List, [], ◌∷◌, ◌++◌, Option, length}
use Rattle.std.specs.Prelude.{position, slice_index}
use Rattle.std.specs.List.{list_any}
use Rattle.std.specs.Str.{bytes_eq}
use Rattle.td_relation.specs.Arch.{ArchWords}

-- empty lines, and lines that begin with `#`, are skipped
abbrev pub is_skipped : List ℕ → Bool
is_skipped line = (length line == 0) || (slice_index line 0 == 35)

-- whether an architecture of the table has the name
abbrev pub is_named : List ArchWords → List ℕ → Bool
is_named table name = list_any (λ a. bytes_eq a.name name) table

-- the place of the first architecture with the name; no two have one name
abbrev pub place_of : List ArchWords → List ℕ → Option ℕ
place_of table name = position (λ a. bytes_eq a.name name) table

-- no architecture has the name of an earlier one, nor of those seen
abbrev pub Fresh : List ArchWords → List ArchWords → Type 0
Fresh seen [] = Unit {0}
Fresh seen (a ∷ archs) = (is_named seen a.name ≡ false) × Fresh (seen ++ a ∷ []) archs

-- a table names no architecture twice
abbrev pub IsApart : List ArchWords → Type 0
IsApart table = Fresh [] table
