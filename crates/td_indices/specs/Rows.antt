-- On which architectures a source has a row (Debian Policy 5.6.8; that rows are of the table's
-- architectures is this project's own).
use Rattle.std.specs.Prelude.{ℕ, zero, suc, ◌+◌, Bool, false, List, slice_get, length, sum_by}
use Rattle.std.specs.Prelude.{if◌then◌else◌}
use Rattle.std.specs.List.{list_any}
use Rattle.std.specs.Option.{option_map_or}
use Rattle.td_relation.specs.Arch.{ArchWords, matches}
use Rattle.td_relation.specs.ArchList.{words}
use Rattle.td_indices.specs.Sources.{KeptSource}

-- whether a word matches the architecture at a place of the table
abbrev pub matches_at : List ArchWords → ℕ → List ℕ → Bool
matches_at table place word = option_map_or (λ a. matches a word) (slice_get table place) false

-- whether a source with this Architecture field has a row on the architecture at a place: whether
-- some word of the field matches it
abbrev pub has_row : List ArchWords → List ℕ → ℕ → Bool
has_row table archs place = list_any (matches_at table place) (words archs)

-- how many rows it has on the architectures before a place
abbrev pub rows_before : List ArchWords → List ℕ → ℕ → ℕ
rows_before table archs zero = 0
rows_before table archs (suc place) =
    rows_before table archs place + (if has_row table archs place then 1 else 0)

-- how many rows a source has
abbrev pub rows_of : List ArchWords → KeptSource → ℕ
rows_of table source = rows_before table source.head.archs (length table)

-- how many rows sources have
abbrev pub row_count : List ArchWords → List KeptSource → ℕ
row_count table sources = sum_by (rows_of table) sources
