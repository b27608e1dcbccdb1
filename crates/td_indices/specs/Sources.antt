-- What a stanza of a Sources index says (Debian Policy 5.4), and what is kept of it.
use Rattle.std.specs.Prelude.{ℕ, not, Bool, false, List, Option, Some, None, Result, Ok, Err, map}
use Rattle.std.specs.Prelude.{codes, if◌then◌else◌}
use Rattle.std.specs.Borrow.{Bor}
use Rattle.std.specs.Option.{option_map_or}
use Rattle.std.specs.Ordering.{is_lt}
use Rattle.std.specs.Str.{bytes_eq}
use Rattle.td_text.specs.Lines.{on_ok}
use Rattle.td_stanza.specs.Field.{Entry}
use Rattle.td_version.specs.Order.{version_cmp}
use Rattle.td_version.specs.Version.{Parts, parts_of}
use Rattle.td_indices.specs.declared.archive_fault.IndexField.TheVariants as field
use Rattle.td_indices.specs.declared.archive_fault.VersionField.TheVariants.{Version}
use Rattle.td_indices.specs.declared.archive_fault.RelationField.TheVariants.{BuildDepends}
use Rattle.td_indices.specs.declared.archive_fault.RelationField.TheVariants.{BuildDependsArch}
use Rattle.td_indices.specs.declared.archive_fault.EntryFault.{EntryFault}
use Rattle.td_indices.specs.declared.sourced.Sourced.{Sourced}
use Rattle.td_indices.specs.Fields.{value_of, needed, name_in, version_in, relation_of}

-- ---- 1. the stanza

-- a source: its name, its version as it is written and by its parts, and its Architecture field
pub record SourcePackage : Type 0 where
  pub name : List ℕ
  pub version : List ℕ
  pub parts : Parts
  pub archs : List ℕ

-- a source that stands in the index only since a package was built with it (`Extra-Source-Only:
-- yes`)
abbrev pub is_extra : List Entry → Bool
is_extra fields =
    option_map_or (λ value. bytes_eq value (codes "yes"))
    (value_of fields (codes "Extra-Source-Only")) false

-- the source of a stanza: first the fields that it needs, then the version
unfoldable pub source_at : List Entry → Result SourcePackage EntryFault
source_at fields =
    on_ok (name_in field.Package (value_of fields (codes "Package"))) (λ name.
    on_ok (needed field.Version (value_of fields (codes "Version"))) (λ version.
    on_ok (needed field.Architecture (value_of fields (codes "Architecture"))) (λ archs.
    on_ok (version_in Version version) (λ parts.
    Ok (record { name = name; version = version; parts = parts; archs = archs })))))

-- a source and the number of its stanza, from 0
pub record KeptSource : Type 0 where
  pub head : SourcePackage
  pub stanza : ℕ

-- a source, where what its build asks for can be read
unfoldable pub with_build_relations : ℕ → List Entry → SourcePackage → Result KeptSource EntryFault
with_build_relations number fields head =
    on_ok (relation_of fields BuildDepends) (λ depends.
    on_ok (relation_of fields BuildDependsArch) (λ arch_depends.
    Ok (record { head = head; stanza = number })))

-- what a stanza of Sources is kept as
unfoldable pub whole_source_at : ℕ → List Entry → Result KeptSource EntryFault
whole_source_at number fields =
    on_ok (source_at fields) (λ head. with_build_relations number fields head)

-- one that is extra is skipped before all checks (this project's own)
unfoldable pub kept_source_at : ℕ → List Entry → Result (Option KeptSource) EntryFault
kept_source_at number fields =
    if is_extra fields then Ok None else on_ok (whole_source_at number fields) (λ s. Ok (Some s))

-- two stanzas of one source
abbrev pub same_source : KeptSource → KeptSource → Bool
same_source a b = bytes_eq a.head.name b.head.name

-- the one's version is lower than the other's
abbrev pub lower_source : KeptSource → KeptSource → Bool
lower_source a b = is_lt (version_cmp a.head.parts b.head.parts)

-- ---- what the readers give and the map holds, without where it lies in memory

-- a source with its name, as the map holds them
abbrev pub source_of : Bor (List ℕ) × Sourced → KeptSource
source_of p = record {
  head = record {
    name = p.0.now;
    version = p.1.version.now;
    parts = parts_of p.1.parts;
    archs = p.1.archs.now;
  };
  stanza = p.1.stanza;
}

-- what was read of a stanza, before the relations of its build, or the stanza's fault
abbrev pub source_found : Result (Bor (List ℕ) × Sourced) EntryFault
    → Result SourcePackage EntryFault
source_found (Ok p) = Ok (source_of p).head
source_found (Err fault) = Err fault

-- all sources that the map holds, in its order
abbrev pub sources_of : List (Bor (List ℕ) × Sourced) → List KeptSource
sources_of entries = map source_of entries

-- whether an earlier source isn't lower than a version
abbrev pub source_stays : Option Sourced → Parts → Bool
source_stays None parts = false
source_stays (Some earlier) parts = not (is_lt (version_cmp (parts_of earlier.parts) parts))
