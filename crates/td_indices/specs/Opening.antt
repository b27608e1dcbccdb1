-- The rows with which a desk opens over an archive. This project's own.
use Rattle.std.specs.Prelude.{ℕ, ◌&&◌, Bool, List, Option, Some, None, fold, filter, map, max}
use Rattle.std.specs.Prelude.{slice_get, if◌then◌else◌}
use Rattle.std.specs.Option.{option_map_or}
use Rattle.td_version.specs.Order.{same_version}
use Rattle.td_version.specs.Splitting.{rebuild_at}
use Rattle.td_version.specs.Version.{Parts}
use Rattle.td_relation.specs.Table.{place_of}
use Rattle.td_rows.specs.Blank.{blank}
use Rattle.td_rows.specs.declared.key.Key.{Key}
use Rattle.td_rows.specs.declared.row.Row.{Row}
use Rattle.td_rows.specs.declared.state.State.TheVariants.{Installed}
use Rattle.td_indices.specs.Archive.{Contents, source_named, is_of}
use Rattle.td_indices.specs.Kept.{KeptBinary}
use Rattle.td_indices.specs.PackageKeys.{same_home}
use Rattle.td_indices.specs.Rows.{has_row}
use Rattle.td_indices.specs.Sources.{KeptSource}

-- the number of the rebuild that a version ends in; 0 where it ends in none
abbrev pub rebuild_number : List ℕ → ℕ
rebuild_number version = option_map_or (λ p. p.1) (rebuild_at version) 0

-- whether a package is on exactly the architecture and was built from a source of this version, or
-- of one equal in order
abbrev pub is_current : Parts → ℕ → KeptBinary → Bool
is_current parts place b =
    same_home b.head.home (Some place) && same_version b.head.source_parts parts

-- the greater of two numbers, the first of which may be missing
abbrev pub greater : Option ℕ → ℕ → Option ℕ
greater None n = Some n
greater (Some m) n = Some (max m n)

-- the greatest number, if there is one
abbrev pub greatest : List ℕ → Option ℕ
greatest numbers = fold greater None numbers

-- the rebuild numbers of the source's packages that were built there from it as it is now
abbrev pub current_numbers : Contents → KeptSource → ℕ → List ℕ
current_numbers a s place =
    map (λ b. rebuild_number b.head.version)
    (filter (λ b. is_of s.head.name b && is_current s.head.parts place b) a.binaries)

-- Installed with the greatest of these numbers, or Needs-Build where there is none
abbrev pub opening_of : Option ℕ → Row
opening_of None = blank
opening_of (Some n) =
    record {
      state = Installed;
      priority = blank.priority;
      number = n;
      dep_wait = blank.dep_wait;
      extra = blank.extra;
    }

-- the row of a source on the architecture at a place, if it has one there
abbrev pub opening_on : Contents → KeptSource → Option ℕ → Option Row
opening_on a s None = None
opening_on a s (Some place) =
    if has_row a.table s.head.archs place
    then Some (opening_of (greatest (current_numbers a s place))) else None

-- the row of a source, if there is one, on the architecture with this name
abbrev pub opening_at : Contents → Option KeptSource → List ℕ → Option Row
opening_at a None arch = None
opening_at a (Some s) arch = opening_on a s (place_of a.table arch)

-- the row with which a key opens, if it has one
abbrev pub opening_row : Contents → Key → Option Row
opening_row a k = opening_at a (source_named a k.source) k.arch

-- ---- the parts of the search

-- the rebuild number of a package, where it was built there from that version
abbrev pub current_number : Parts → ℕ → Option KeptBinary → Option ℕ
current_number parts place None = None
current_number parts place (Some b) =
    if is_current parts place b then Some (rebuild_number b.head.version) else None

-- the greatest with one more, if there is one
abbrev pub with_number : Option ℕ → Option ℕ → Option ℕ
with_number best None = best
with_number best (Some n) = greater best n

-- the greatest among packages with these numbers
abbrev pub greatest_at : List KeptBinary → Parts → ℕ → Option ℕ → List ℕ → Option ℕ
greatest_at bs parts place best numbers =
    fold (λ so_far n. with_number so_far (current_number parts place (slice_get bs n))) best numbers
