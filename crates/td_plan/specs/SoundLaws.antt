-- Premises over an archive that was read: a plan can be made of them, and the rows of the affected
-- sources are enough for it. This project's own.
use Rattle.std.specs.Prelude.{◌≡◌, ℕ, Bool, true, List, filter, map}
use Rattle.td_relation.specs.Table.{IsApart}
use Rattle.td_rows.specs.Keys.{ascending}
use Rattle.td_rows.specs.Overlay.{overlaid}
use Rattle.td_rows.specs.StateFile.{IsStateFile}
use Rattle.td_rows.specs.Table.{Table, keys_of, row_of}
use Rattle.td_rows.specs.declared.key.Key.{Key}
use Rattle.td_indices.specs.Archive.{Contents, IsArchive}
use Rattle.td_indices.specs.Choosing.{AreOpenedOf, flagged, is_of_one}
use Rattle.td_indices.specs.Opening.{opening_row}
use Rattle.td_indices.specs.Sources.{KeptSource}
use Rattle.td_query.specs.Statuses.{is_affected}
use Rattle.td_plan.specs.Lines.{Words}
use Rattle.td_plan.specs.Plan.{IsPlan}
use Rattle.td_plan.specs.PlayLaws.{VersionsAreRead}
use Rattle.td_plan.specs.Premises.{AreSound, PackagesAreApart, Premises}

-- ---- 1. premises of which a plan can be made

-- what `Plan::of` asks of premises: they are sound, and no two packages have one name and one place
pub record CanBePlanned (p : Premises) : Type 0 where
  pub sound : AreSound p
  pub apart : PackagesAreApart p

-- an archive was read of two texts, with a table that names no architecture twice
pub record WasRead (a : Contents) : Type 0 where
  pub package_lines : List (List ℕ)
  pub source_lines : List (List ℕ)
  pub is_archive : IsArchive a.table package_lines source_lines a
  pub apart : IsApart a.table

-- the rows are those with which a desk opens over an archive, in the order of their keys
pub record AreOpening (a : Contents) (rows : Table) : Type 0 where
  pub same : (k : Key) → row_of rows k ≡ opening_row a k
  pub rising : ascending (keys_of rows) ≡ true

-- over an archive that was read, a plan can be made of all rows with which a desk opens
abbrev pub OpeningRowsCanBePlanned : Type 0
OpeningRowsCanBePlanned = (p : Premises) → WasRead p.archive → AreOpening p.archive p.rows
    → CanBePlanned p

-- over an archive that was read, a plan can be made of the rows with which a desk opens, with the
-- rows of a state file instead of those of the same keys
abbrev pub ReplacedRowsCanBePlanned : Type 0
ReplacedRowsCanBePlanned = (p : Premises) (opened given : Table) (lines : List (List ℕ))
    → WasRead p.archive → AreOpening p.archive opened → IsStateFile lines given
    → p.rows ≡ overlaid given opened → CanBePlanned p

-- over an archive that was read, a plan can be made of the rows with which some sources open
abbrev pub ChosenRowsCanBePlanned : Type 0
ChosenRowsCanBePlanned = (p : Premises) (sources : List KeptSource) → WasRead p.archive
    → AreOpenedOf p.archive sources p.rows → CanBePlanned p

-- in an archive that was read, each source's version is that of how it is written
abbrev pub VersionsOfArchivesAreRead : Type 0
VersionsOfArchivesAreRead = (p : Premises) → WasRead p.archive → VersionsAreRead p

-- ---- 2. the rows that are enough

-- the premises with these rows instead of their own
abbrev pub with_rows : Premises → Table → Premises
with_rows p rows = record { archive = p.archive; tracker = p.tracker; rows = rows }

-- the rows of the affected sources
abbrev pub affected_rows : Premises → Table
affected_rows p = filter (λ e.
    is_of_one (filter (is_affected p.archive p.tracker) p.archive.sources) e.0) p.rows

-- a plan of the rows of the affected sources is a plan of all rows
abbrev pub AffectedRowsAreEnough : Type 0
AffectedRowsAreEnough = (words : Words) (p : Premises) (text : List ℕ)
    → IsPlan words (with_rows p (affected_rows p)) text → IsPlan words p text

-- a plan of the rows with which the affected sources open, which flags name, is a plan of all rows
-- with which a desk opens
abbrev pub AffectedOpeningRowsAreEnough : Type 0
AffectedOpeningRowsAreEnough = (words : Words) (p : Premises) (flags : List Bool) (text : List ℕ)
    → flags ≡ map (is_affected p.archive p.tracker) p.archive.sources
    → AreOpenedOf p.archive (flagged flags p.archive.sources) p.rows → IsPlan words p text
    → (all : Table) × AreOpening p.archive all × IsPlan words (with_rows p all) text
