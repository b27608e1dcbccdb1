-- The status of a row: whether a transition affects it, and how far its rebuild has come.
-- This project's own.
use Rattle.std.specs.Prelude.{ℕ, ◌&&◌, ◌||◌, Bool, true, false, List, Option, Some, None, is_some}
use Rattle.std.specs.Prelude.{codes, filter, length, map, slice_get, if◌then◌else◌}
use Rattle.std.specs.List.{list_any, range_with_len}
use Rattle.std.specs.Option.{option_map_or}
use Rattle.regex.specs.Patterns.{Re}
use Rattle.td_relation.specs.Table.{place_of}
use Rattle.td_rows.specs.declared.key.Key.{Key}
use Rattle.td_indices.specs.Archive.{Contents, is_of_on, number_named}
use Rattle.td_indices.specs.Rows.{has_row}
use Rattle.td_indices.specs.Sources.{KeptSource}
use Rattle.td_indices.specs.Stanzas.{package_fields, source_fields}
use Rattle.td_query.specs.declared.status.Status.{Status}
use Rattle.td_query.specs.declared.status.Status.TheVariants.{Good, Bad, Partial, Unknown}
use Rattle.td_query.specs.Query.{Shape}
use Rattle.td_query.specs.Tracking.{Tracking}
use Rattle.td_query.specs.Truth.{truth}

-- the names that a report prints
abbrev pub status_name : Status → List ℕ
status_name Good = codes "good"
status_name Bad = codes "bad"
status_name Partial = codes "partial"
status_name Unknown = codes "unknown"

-- some stanza of the row satisfies the query:
-- the source's own, or that of one of the source's packages on the architecture or of `all`
abbrev pub row_satisfies : Contents → List Re → Shape → KeptSource → ℕ → Bool
row_satisfies a patterns query s place =
    truth patterns (source_fields a s) query || list_any
    (λ b. is_of_on s.head.name place b && truth patterns (package_fields a b) query) a.binaries

-- an affected row is Partial if it is good and bad,
-- Good or Bad if it is one of them, else Unknown
abbrev pub graded : Bool → Bool → Status
graded true true = Partial
graded true false = Good
graded false true = Bad
graded false false = Unknown

-- a row that isn't affected has no status
abbrev pub status_where : Bool → Bool → Bool → Option Status
status_where false good bad = None
status_where true good bad = Some (graded good bad)

-- the status of a source's row on the architecture at a place;
-- none if the source has no row there
abbrev pub row_status : Contents → Tracking → KeptSource → ℕ → Option Status
row_status a t s place =
    if has_row a.table s.head.archs place
    then status_where (row_satisfies a t.patterns t.affected s place)
    (row_satisfies a t.patterns t.good s place) (row_satisfies a t.patterns t.bad s place)
    else None

-- the status of the row of a source on an architecture, both by number
abbrev pub status_at : Contents → Tracking → ℕ → ℕ → Option Status
status_at a t source place = option_map_or (λ s. row_status a t s place)
    (slice_get a.sources source) None

-- the status of the row of a key: of its source on its architecture, both by name
abbrev pub status_of : Contents → Tracking → Key → Option Status
status_of a t k = option_map_or (λ source. option_map_or (status_at a t source)
    (place_of a.table k.arch) None) (number_named a k.source) None

-- a source is affected if and only if some row of it is
abbrev pub is_affected : Contents → Tracking → KeptSource → Bool
is_affected a t s = list_any (λ place. is_some (row_status a t s place))
    (range_with_len 0 (length a.table))

-- whether the source with a number is affected
abbrev pub is_affected_at : Contents → Tracking → ℕ → Bool
is_affected_at a t source = option_map_or (is_affected a t) (slice_get a.sources source) false

-- the names of the affected sources, in the order in which the archive holds them
abbrev pub affected_names : Contents → Tracking → List (List ℕ)
affected_names a t = map (λ s. s.head.name) (filter (is_affected a t) a.sources)
