-- With which row a key opens, by the packages that were built. This project's own.
use Rattle.std.specs.Prelude.{◌≡◌, ◌⊎◌, ◌↔◌, ◌≤◌, ℕ, IsTrue, Some}
use Rattle.std.specs.List.{Contains}
use Rattle.std.specs.declared.cmp.Ordering.TheVariants.{Equal}
use Rattle.td_version.specs.Order.{version_cmp}
use Rattle.td_relation.specs.Table.{place_of}
use Rattle.td_rows.specs.Blank.{blank}
use Rattle.td_rows.specs.declared.key.Key.{Key}
use Rattle.td_rows.specs.declared.row.Row.{Row}
use Rattle.td_rows.specs.declared.state.State.TheVariants.{Installed}
use Rattle.td_indices.specs.Archive.{Contents, source_named}
use Rattle.td_indices.specs.Kept.{KeptBinary}
use Rattle.td_indices.specs.Opening.{opening_row, rebuild_number}
use Rattle.td_indices.specs.Rows.{has_row}
use Rattle.td_indices.specs.Sources.{KeptSource}

-- a package of the source on exactly the architecture at a place, built from a source version that
-- is equal in order to the source's own
pub record IsBuiltThere (a : Contents) (s : KeptSource) (place : ℕ) (b : KeptBinary) : Type 0 where
  pub kept : Contains a.binaries b
  pub own : b.head.source ≡ s.head.name
  pub there : b.head.home ≡ Some place
  pub current : version_cmp b.head.source_parts s.head.parts ≡ Equal

-- the row is Installed with the rebuild number of a package that was built there from the source's
-- version, and none of these has a greater
pub record IsBuilt (a : Contents) (s : KeptSource) (place : ℕ) (row : Row) : Type 0 where
  pub binary : KeptBinary
  pub built : IsBuiltThere a s place binary
  pub greatest : (b : KeptBinary) → IsBuiltThere a s place b
      → rebuild_number b.head.version ≤ rebuild_number binary.head.version
  pub installed : row
      ≡ record {
        state = Installed;
        priority = blank.priority;
        number = rebuild_number binary.head.version;
        dep_wait = blank.dep_wait;
        extra = blank.extra;
      }

-- no package was built there from the source's version, and the row is blank
pub record IsUnbuilt (a : Contents) (s : KeptSource) (place : ℕ) (row : Row) : Type 0 where
  pub none : (b : KeptBinary) → ¬ IsBuiltThere a s place b
  pub blank_row : row ≡ blank

-- the source with the key's name has a row on the architecture with its name, and the row is
-- Installed or blank by the packages that were built there
pub record IsOpening (a : Contents) (k : Key) (row : Row) : Type 0 where
  pub source : KeptSource
  pub place : ℕ
  pub named : source_named a k.source ≡ Some source
  pub at : place_of a.table k.arch ≡ Some place
  pub has : IsTrue (has_row a.table source.head.archs place)
  pub opens : IsBuilt a source place row ⊎ IsUnbuilt a source place row

-- a key opens with a row if and only if that is the row by the packages that were built
abbrev pub OpeningRowsAreExact : Type 0
OpeningRowsAreExact =
    (a : Contents) (k : Key) (row : Row) → (opening_row a k ≡ Some row) ↔ IsOpening a k row
