-- What a plan is made of: an archive, a tracker and the rows as they are. This project's own.
use Rattle.std.specs.Prelude.{◌≡◌, ◌≤◌, ℕ, [], Bool, false, IsTrue, List, Option, Some, length}
use Rattle.std.specs.Prelude.{slice_get}
use Rattle.std.specs.List.{Contains, range_with_len}
use Rattle.std.specs.Option.{option_map_or}
use Rattle.td_text.specs.Limits.{max_rebuild}
use Rattle.td_relation.specs.Arch.{ArchWords}
use Rattle.td_relation.specs.Table.{IsApart, place_of}
use Rattle.td_rows.specs.declared.key.Key.{Key}
use Rattle.td_rows.specs.declared.row.Row.{Row}
use Rattle.td_rows.specs.Table.{IsTable, Table, row_of}
use Rattle.td_indices.specs.Archive.{Contents, number_named, source_named}
use Rattle.td_indices.specs.Kept.{KeptBinary, same_package}
use Rattle.td_indices.specs.Sources.{KeptSource}
use Rattle.td_indices.specs.Stanzas.{package_fields}
use Rattle.td_query.specs.Tracking.{Tracking}
use Rattle.td_query.specs.Truth.{truth}

-- an archive, a tracker, and rows with their keys
pub record Premises : Type 0 where
  pub archive : Contents
  pub tracker : Tracking
  pub rows : Table

-- the places of the table of architectures, in its order
abbrev pub places : Premises → List ℕ
places p = range_with_len 0 (length p.archive.table)

-- the name of the architecture at a place
abbrev pub arch_at : List ArchWords → ℕ → List ℕ
arch_at table place = option_map_or (λ a. a.name) (slice_get table place) []

-- the key of a source on the architecture at a place
abbrev pub key_at : Premises → KeptSource → ℕ → Key
key_at p s place = record { source = s.head.name; arch = arch_at p.archive.table place }

-- the source's row there, if there is one
abbrev pub row_at : Premises → KeptSource → ℕ → Option Row
row_at p s place = row_of p.rows (key_at p s place)

-- whether the source has a row there that passes a test
abbrev pub has_row_that : (Row → Bool) → Premises → KeptSource → ℕ → Bool
has_row_that test p s place = option_map_or test (row_at p s place) false

-- the name of a source
abbrev pub name_of : KeptSource → List ℕ
name_of s = s.head.name

-- whether the tracker calls a package bad, by the package's own stanza
abbrev pub is_bad : Premises → KeptBinary → Bool
is_bad p b = truth p.tracker.patterns (package_fields p.archive b) p.tracker.bad

-- the row of a key: it is of a source of the archive on an architecture of the table, and its
-- number is within the limit
pub record IsRowOf (p : Premises) (k : Key) (row : Row) : Type 0 where
  pub source : KeptSource
  pub named : source_named p.archive k.source ≡ Some source
  pub place : ℕ
  pub at : place_of p.archive.table k.arch ≡ Some place
  pub limited : row.number ≤ max_rebuild

-- no source stands twice: each has its number by its name
abbrev pub SourcesAreApart : Contents → Type 0
SourcesAreApart a = (number : ℕ) (s : KeptSource) → slice_get a.sources number ≡ Some s
    → number_named a s.head.name ≡ Some number

-- what every archive that was read and every `Rows` have: no architecture and no source stands
-- twice, and the rows are in the order of their keys, and the archive's
pub record AreSound (p : Premises) : Type 0 where
  pub apart : IsApart p.archive.table
  pub numbered : SourcesAreApart p.archive
  pub rows : IsTable p.rows
  pub of_archive : (k : Key) (row : Row) → row_of p.rows k ≡ Some row → IsRowOf p k row

-- no two packages of an archive have one name and one place, as in each that was read
abbrev pub PackagesAreApart : Premises → Type 0
PackagesAreApart p = (b c : KeptBinary) → Contains p.archive.binaries b
    → Contains p.archive.binaries c → IsTrue (same_package b c) → b ≡ c
