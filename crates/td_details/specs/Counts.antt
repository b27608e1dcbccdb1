-- What an archive has on an architecture of its table. This project's own.
use Rattle.std.specs.Prelude.{◌≡◌, ℕ, ◌<◌, ◌&&◌, Bool, false, List, Option, Some, count_by}
use Rattle.std.specs.Prelude.{get_or, length}
use Rattle.std.specs.List.{list_any}
use Rattle.std.specs.Option.{option_map_or}
use Rattle.td_version.specs.Version.{Parts}
use Rattle.td_rows.specs.declared.row.Row.{Row}
use Rattle.td_rows.specs.States.{is_queued}
use Rattle.td_indices.specs.Archive.{Contents, is_of}
use Rattle.td_indices.specs.Kept.{KeptBinary}
use Rattle.td_indices.specs.Opening.{is_current, opening_on}
use Rattle.td_indices.specs.PackageKeys.{same_home}
use Rattle.td_indices.specs.Rows.{has_row}
use Rattle.td_indices.specs.Sources.{KeptSource}
use Rattle.td_details.specs.declared.counts.ArchCounts.{ArchCounts}

-- whether a package is of exactly the architecture at a place; one of `all` is of none
abbrev pub is_own : ℕ → KeptBinary → Bool
is_own place b = same_home b.head.home (Some place)

-- how many packages the architecture at a place has of its own
abbrev pub own_count : Contents → ℕ → ℕ
own_count c place = count_by (is_own place) c.binaries

-- whether a source has a row on the architecture at a place
abbrev pub is_there : Contents → ℕ → KeptSource → Bool
is_there c place s = has_row c.table s.head.archs place

-- whether a row is there, and is Needs-Build
abbrev pub needs_build : Option Row → Bool
needs_build row = option_map_or (λ r. is_queued r.state) row false

-- whether a source has a row on the architecture at a place that opens as Needs-Build
abbrev pub is_queued_there : Contents → ℕ → KeptSource → Bool
is_queued_there c place s = needs_build (opening_on c s (Some place))

-- what there is on the architecture at a place
abbrev pub counts_at : Contents → ℕ → ArchCounts
counts_at c place = record {
  binaries = own_count c place;
  rows = count_by (is_there c place) c.sources;
  queued = count_by (is_queued_there c place) c.sources;
}

-- ---- the parts of the work

-- counts, one for each architecture of the table: of the packages that it has of its own
pub record AreOwnCounts (c : Contents) (counts : List ℕ) : Type 0 where
  pub len : length counts ≡ length c.table
  pub each : (place : ℕ) → place < length c.table → get_or counts place 0 ≡ own_count c place

-- whether some package of the source of this name was built on the architecture at a place from
-- this version
abbrev pub has_built : Contents → List ℕ → Parts → ℕ → Bool
has_built c name parts place =
    list_any (λ b. is_of name b && is_current parts place b) c.binaries
