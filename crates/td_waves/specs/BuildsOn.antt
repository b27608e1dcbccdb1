-- Which source builds on which. This project's own.
use Rattle.std.specs.Prelude.{ℕ, ◌&&◌, ◌||◌, not, Bool, false, List, [], Option, slice_get, length}
use Rattle.std.specs.List.{list_any, range_with_len}
use Rattle.std.specs.Option.{option_map_or}
use Rattle.std.specs.Str.{bytes_eq}
use Rattle.td_relation.specs.Arch.{ArchWords}
use Rattle.td_relation.specs.Asked.{Asked}
use Rattle.td_relation.specs.Meeting.{active, is_on}
use Rattle.td_indices.specs.Archive.{Contents, has_row_at, is_of, number_named}
use Rattle.td_indices.specs.Kept.{KeptBinary}
use Rattle.td_indices.specs.OfferedNames.{offered_names}
use Rattle.td_indices.specs.Stanzas.{build_depends_of, build_depends_arch_of}

-- what the source with a number asks for in Build-Depends (Debian Policy 7.7)
abbrev pub asked_first : Contents → ℕ → List (List Asked)
asked_first a source = option_map_or (build_depends_of a) (slice_get a.sources source) []

-- what it asks for in Build-Depends-Arch (Debian Policy 7.7)
abbrev pub asked_for_arch : Contents → ℕ → List (List Asked)
asked_for_arch a source = option_map_or (build_depends_arch_of a) (slice_get a.sources source) []

-- whether an alternative is active on the architecture at a place
abbrev pub is_active_at : List ArchWords → ℕ → Asked → Bool
is_active_at table place x = option_map_or (λ arch. active arch x) (slice_get table place) false

-- on the architecture at a place there is the package with this home, the alternative is active,
-- and the source has a row
abbrev pub fits_at : Contents → ℕ → Asked → Option ℕ → ℕ → Bool
fits_at a source x home place = is_on place home
    && (is_active_at a.table place x && has_row_at a source place)

-- on some architecture there is the package with this home, the alternative is active, and the
-- source has a row
abbrev pub fits : Contents → ℕ → Asked → Option ℕ → Bool
fits a source x home = list_any (fits_at a source x home) (range_with_len 0 (length a.table))

-- an alternative of a source's build names a package, or what the package provides, where it fits;
-- a restriction of the version isn't looked at
abbrev pub names_package : Contents → ℕ → Asked → KeptBinary → Bool
names_package a source x b = list_any (λ name. bytes_eq x.name name && fits a source x b.head.home)
    (offered_names b)

-- an alternative of a source's build names some package of the source t, or what that provides,
-- where it fits
abbrev pub names_some_of : Contents → ℕ → List ℕ → Asked → Bool
names_some_of a source t x = list_any (λ b. is_of t b && names_package a source x b) a.binaries

-- some alternative of some member passes a test
abbrev pub some_asked : (Asked → Bool) → List (List Asked) → Bool
some_asked test members = list_any (λ member. list_any test member) members

-- the source with a number asks for a package of t in one of the two fields
abbrev pub asks : Contents → List ℕ → ℕ → Bool
asks a t source = some_asked (names_some_of a source t) (asked_first a source)
    || some_asked (names_some_of a source t) (asked_for_arch a source)

-- the source s builds on t, which is another one
abbrev pub builds_on : Contents → List ℕ → List ℕ → Bool
builds_on a s t = not (bytes_eq s t) && option_map_or (asks a t) (number_named a s) false
