-- What the status of a row means. This project's own.
use Rattle.std.specs.Prelude.{◌≡◌, ◌⊎◌, ◌↔◌, ℕ, IsTrue, false, List, Option, Some, None, slice_get}
use Rattle.std.specs.List.{Contains}
use Rattle.regex.specs.Patterns.{Re}
use Rattle.td_stanza.specs.Field.{Entry}
use Rattle.td_indices.specs.Archive.{Contents, has_row_at, is_of_on}
use Rattle.td_indices.specs.Kept.{KeptBinary}
use Rattle.td_indices.specs.Rows.{has_row}
use Rattle.td_indices.specs.Sources.{KeptSource}
use Rattle.td_indices.specs.Stanzas.{package_fields, source_fields}
use Rattle.td_query.specs.declared.status.Status.{Status}
use Rattle.td_query.specs.declared.status.Status.TheVariants.{Good, Bad, Partial, Unknown}
use Rattle.td_query.specs.Query.{Shape}
use Rattle.td_query.specs.QueryLaws.{Holds}
use Rattle.td_query.specs.Statuses.{row_satisfies, status_at}
use Rattle.td_query.specs.Tracking.{Tracking}

-- a stanza of a source's row:
-- the source's own, or that of one of its packages on the architecture or of `all`
abbrev pub IsRowStanza : Contents → KeptSource → ℕ → List Entry → Type 0
IsRowStanza a s place fields =
    (fields ≡ source_fields a s)
    ⊎ ((b : KeptBinary) × Contains a.binaries b × IsTrue (is_of_on s.head.name place b)
    × (fields ≡ package_fields a b))

-- some stanza of the row satisfies the query
abbrev pub SomeSatisfies : Contents → List Re → Shape → KeptSource → ℕ → Type 0
SomeSatisfies a patterns query s place = (fields : List Entry) × IsRowStanza a s place fields
    × Holds patterns fields query

-- a row satisfies a query if and only if some stanza of the row satisfies it
abbrev pub RowsSatisfyByAStanza : Type 0
RowsSatisfyByAStanza = (a : Contents) (patterns : List Re) (query : Shape) (s : KeptSource)
    (place : ℕ) →
    IsTrue (row_satisfies a patterns query s place) ↔ SomeSatisfies a patterns query s place

-- the status of a row, by whether it is affected, good and bad
pub record IsGraded (Affected IsGood IsBad : Type 0) (status : Option Status) : Type 0 where
  pub none : (status ≡ None) ↔ (¬ Affected)
  pub good : (status ≡ Some Good) ↔ (Affected × IsGood × (¬ IsBad))
  pub bad : (status ≡ Some Bad) ↔ (Affected × (¬ IsGood) × IsBad)
  pub partial : (status ≡ Some Partial) ↔ (Affected × IsGood × IsBad)
  pub unknown : (status ≡ Some Unknown) ↔ (Affected × (¬ IsGood) × (¬ IsBad))

-- a row's status depends on what its stanzas satisfy
abbrev pub RowsAreGradedByTheirStanzas : Type 0
RowsAreGradedByTheirStanzas = (a : Contents) (t : Tracking) (source place : ℕ) (s : KeptSource) →
    slice_get a.sources source ≡ Some s → IsTrue (has_row a.table s.head.archs place) →
    IsGraded (SomeSatisfies a t.patterns t.affected s place)
    (SomeSatisfies a t.patterns t.good s place) (SomeSatisfies a t.patterns t.bad s place)
    (status_at a t source place)

-- what is no row has no status
abbrev pub RowsAloneHaveAStatus : Type 0
RowsAloneHaveAStatus = (a : Contents) (t : Tracking) (source place : ℕ)
    → has_row_at a source place ≡ false → status_at a t source place ≡ None
