-- On what a source builds on one architecture: the rule of waves (td_waves, specs/BuildsOn.antt)
-- at one place of the table. This project's own.
use Rattle.std.specs.Prelude.{◌≡◌, ◌↔◌, ◌<◌, ◌&&◌, ◌||◌, not, ℕ, Bool, IsTrue, Some, length}
use Rattle.std.specs.List.{list_any}
use Rattle.std.specs.Str.{bytes_eq}
use Rattle.td_relation.specs.Asked.{Asked}
use Rattle.td_relation.specs.Meeting.{is_on}
use Rattle.td_indices.specs.Archive.{Contents, is_of, source_named}
use Rattle.td_indices.specs.Kept.{KeptBinary}
use Rattle.td_indices.specs.OfferedNames.{offered_names}
use Rattle.td_indices.specs.Rows.{has_row}
use Rattle.td_indices.specs.Sources.{KeptSource}
use Rattle.td_indices.specs.Stanzas.{build_depends_of, build_depends_arch_of}
use Rattle.td_waves.specs.BuildsOn.{builds_on, is_active_at, some_asked}

-- an alternative of the source's build that is active on the architecture at a place passes a
-- test, in one of the two fields
abbrev pub asks_active : Contents → KeptSource → ℕ → (Asked → Bool) → Bool
asks_active a s place test =
    some_asked (λ x. is_active_at a.table place x && test x) (build_depends_of a s)
    || some_asked (λ x. is_active_at a.table place x && test x) (build_depends_arch_of a s)

-- an alternative names what a package offers: the package, or a name that it provides
abbrev pub names_offer : KeptBinary → Asked → Bool
names_offer b x = list_any (λ name. bytes_eq x.name name) (offered_names b)

-- an alternative names a package by the package's own name
abbrev pub names_itself : KeptBinary → Asked → Bool
names_itself b x = bytes_eq x.name b.head.name

-- the source has a row on the architecture at a place, the package is there or of `all`, and the
-- source's build asks there for what it offers
abbrev pub asks_there : Contents → KeptSource → ℕ → KeptBinary → Bool
asks_there a s place b = has_row a.table s.head.archs place
    && (is_on place b.head.home && asks_active a s place (names_offer b))

-- the source s builds at a place on t, which is another source
abbrev pub builds_there : Contents → ℕ → KeptSource → KeptSource → Bool
builds_there a place s t = not (bytes_eq s.head.name t.head.name)
    && list_any (λ b. is_of t.head.name b && asks_there a s place b) a.binaries

-- the source s builds on t at a place
abbrev pub BuildsThere : Contents → ℕ → KeptSource → KeptSource → Type 0
BuildsThere a place s t = IsTrue (builds_there a place s t)

-- a source of the archive builds on another if and only if it does so at some place of the table
abbrev pub SourcesBuildSomewhere : Type 0
SourcesBuildSomewhere = (a : Contents) (s t : KeptSource)
    → source_named a s.head.name ≡ Some s
    → IsTrue (builds_on a s.head.name t.head.name)
    ↔ ((place : ℕ) × (place < length a.table) × BuildsThere a place s t)
