-- The rows with which a desk opens, put together source by source. This project's own.
use Rattle.std.specs.Prelude.{◌≡◌, Some, Ok, ℕ, nat_lt, ◌&&◌, Bool, false, List, Option, slice_get}
use Rattle.std.specs.Prelude.{if◌then◌else◌}
use Rattle.std.specs.Option.{option_map_or, option_or}
use Rattle.std.specs.Str.{bytes_eq}
use Rattle.td_relation.specs.Arch.{ArchWords}
use Rattle.td_relation.specs.Table.{place_of}
use Rattle.td_rows.specs.declared.key.Key.{Key}
use Rattle.td_rows.specs.declared.row.Row.{Row}
use Rattle.td_supply.specs.Supply.{SupplyView, version_of}
use Rattle.td_version.specs.Reading.{reading}
use Rattle.td_version.specs.Version.{Parts}
use Rattle.td_indices.specs.Rows.{has_row}

-- whether a key is the source's on the architecture at a place
abbrev pub is_key_at : List ArchWords → List ℕ → ℕ → Key → Bool
is_key_at table source place k =
    bytes_eq k.source source
    && option_map_or (λ a. bytes_eq a.name k.arch) (slice_get table place) false

-- whether a source with this Architecture field has a row on the architecture with a name
abbrev pub has_row_on : List ArchWords → List ℕ → List ℕ → Bool
has_row_on table archs arch = option_map_or (λ p. has_row table archs p) (place_of table arch) false

-- whether a source with this Architecture field has a row on the architecture with a name, and that
-- comes before a place of the table
abbrev pub has_row_before : List ArchWords → List ℕ → ℕ → List ℕ → Bool
has_row_before table archs place arch =
    option_map_or (λ p. nat_lt p place && has_row table archs p) (place_of table arch) false

-- the row of a key that is gone over: the one with which it opens, if it has one
abbrev pub with_opening : Bool → Option Row → Option Row → Option Row
with_opening gone opening row = if gone then option_or opening row else row

-- the supply has a version of the source, and it reads as a version
abbrev pub IsVersionKnown : SupplyView → List ℕ → Type 0
IsVersionKnown s name =
    (text : List ℕ) × (parts : Parts) × (version_of s name ≡ Some text) × (reading text ≡ Ok parts)
