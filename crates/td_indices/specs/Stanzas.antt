-- The stanzas that packages and sources were kept of, and what a source's build asks for.
use Rattle.std.specs.Prelude.{◌≡◌, ℕ, List, [], Option, Some, Result, Ok, Err, slice_get}
use Rattle.std.specs.Option.{option_map_or}
use Rattle.td_stanza.specs.Field.{Entry}
use Rattle.td_relation.specs.Asked.{Asked}
use Rattle.td_indices.specs.declared.archive_fault.RelationField.{RelationField}
use Rattle.td_indices.specs.declared.archive_fault.RelationField.TheVariants.{BuildDepends}
use Rattle.td_indices.specs.declared.archive_fault.RelationField.TheVariants.{BuildDependsArch}
use Rattle.td_indices.specs.declared.archive_fault.EntryFault.{EntryFault}
use Rattle.td_indices.specs.Archive.{Contents}
use Rattle.td_indices.specs.Fields.{relation_of}
use Rattle.td_indices.specs.Kept.{KeptBinary}
use Rattle.td_indices.specs.Sources.{KeptSource}

-- the fields of the stanza with a number, from 0; none where there is no such stanza
abbrev pub fields_at : List (List Entry) → ℕ → List Entry
fields_at stanzas number = option_map_or (λ fields. fields) (slice_get stanzas number) []

-- the fields of the stanza that a binary package was kept of
abbrev pub package_fields : Contents → KeptBinary → List Entry
package_fields a b = fields_at a.packages b.stanza

-- the fields of the stanza that a source was kept of
abbrev pub source_fields : Contents → KeptSource → List Entry
source_fields a s = fields_at a.source_stanzas s.stanza

-- the stanza with this number is there, and it is kept as this item
pub record IsKeptOf {A : Type 0} (at : ℕ → List Entry → Result (Option A) EntryFault)
    (stanzas : List (List Entry)) (number : ℕ) (item : A) : Type 0 where
  pub fields : List Entry
  pub there : slice_get stanzas number ≡ Some fields
  pub kept : at number fields ≡ Ok (Some item)

-- what a relation that was read asks; nothing where it can't be read
abbrev pub asked_or_none : Result (List (List Asked)) EntryFault → List (List Asked)
asked_or_none (Ok members) = members
asked_or_none (Err fault) = []

-- what a relation field of a source's stanza asks; of a source that is kept it can be read
abbrev pub asked_in : Contents → KeptSource → RelationField → Result (List (List Asked)) EntryFault
asked_in a s field = relation_of (source_fields a s) field

-- what every build of a source asks for, and what those of its packages ask that aren't of `all`
-- (Debian Policy 7.7)
abbrev pub build_depends_of : Contents → KeptSource → List (List Asked)
build_depends_of a s = asked_or_none (asked_in a s BuildDepends)

-- what the builds of its packages that aren't of `all` ask for besides (Debian Policy 7.7)
abbrev pub build_depends_arch_of : Contents → KeptSource → List (List Asked)
build_depends_arch_of a s = asked_or_none (asked_in a s BuildDependsArch)
