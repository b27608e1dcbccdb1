-- Which version of a stanza is named as bad, and which of its relations: the first that is. That
-- order is this project's own.
use Rattle.std.specs.Prelude.{◌≡◌, ◌≢◌, ◌↔◌, ℕ, false, List, Some, Err, codes}
use Rattle.td_stanza.specs.Field.{Entry}
use Rattle.td_version.specs.Grammar.{IsVersion}
use Rattle.td_version.specs.Version.{Parts}
use Rattle.td_relation.specs.Arch.{ArchWords}
use Rattle.td_relation.specs.Asked.{Asked}
use Rattle.td_relation.specs.Spacing.{IsRelation}
use Rattle.td_text.specs.Runs.{is_blank}
use Rattle.td_indices.specs.declared.archive_fault.RelationField.{RelationField}
use Rattle.td_indices.specs.declared.archive_fault.RelationField.TheVariants.{BuildDepends}
use Rattle.td_indices.specs.declared.archive_fault.RelationField.TheVariants.{BuildDependsArch}
use Rattle.td_indices.specs.declared.archive_fault.RelationField.TheVariants.{Depends, PreDepends}
use Rattle.td_indices.specs.declared.archive_fault.RelationField.TheVariants.{Provides}
use Rattle.td_indices.specs.declared.archive_fault.EntryFault.TheVariants.{BadRelation, BadVersion}
use Rattle.td_indices.specs.declared.archive_fault.VersionField.{VersionField}
use Rattle.td_indices.specs.declared.archive_fault.VersionField.TheVariants.{Version, Source}
use Rattle.td_indices.specs.Binaries.{BinaryPackage}
use Rattle.td_indices.specs.Fields.{relation_field_name, value_of}
use Rattle.td_indices.specs.Kept.{binary_at}
use Rattle.td_indices.specs.Needed.{HasNeeded}
use Rattle.td_indices.specs.PackageStanzas.{IsPackage}
use Rattle.td_indices.specs.Sources.{kept_source_at}

-- ---- 1. versions

-- the field Version is a version
abbrev pub HasVersion : List Entry → Type 0
HasVersion fields = (text : List ℕ) × (parts : Parts)
    × (value_of fields (codes "Version") ≡ Some text) × IsVersion text parts

-- the field Version is there and is no version
abbrev pub HasBadVersion : List Entry → Type 0
HasBadVersion fields = (text : List ℕ) × (value_of fields (codes "Version") ≡ Some text)
    × ((parts : Parts) → IsVersion text parts → ⊥)

-- the version in this field may be named as bad: the package's own if it is none, and its source's
-- only if the package's own is one
abbrev pub MayBeBad : List Entry → VersionField → Type 0
MayBeBad fields Version = HasBadVersion fields
MayBeBad fields Source = HasVersion fields

-- a package's own version is named as bad before its source's
abbrev pub PackageVersionsComeInOrder : Type 0
PackageVersionsComeInOrder = (table : List ArchWords) (number : ℕ) (fields : List Entry)
    (field : VersionField) → binary_at table number fields ≡ Err (BadVersion field)
    → MayBeBad fields field

-- ---- 2. relations

-- the field is there, has more than whitespace, and is no relation
abbrev pub IsUnread : List Entry → RelationField → Type 0
IsUnread fields field = (text : List ℕ) × (value_of fields (relation_field_name field) ≡ Some text)
    × (is_blank text ≡ false) × ((asked : List (List Asked)) → IsRelation text asked → ⊥)

-- the field is a relation, or has only whitespace, or isn't there
abbrev pub IsReadable : List Entry → RelationField → Type 0
IsReadable fields field = (text : List ℕ) → value_of fields (relation_field_name field) ≡ Some text
    → is_blank text ≡ false → (asked : List (List Asked)) × IsRelation text asked

-- the field is the first of a package's relations that is none
abbrev pub IsFirstUnread : List Entry → RelationField → Type 0
IsFirstUnread fields Depends = IsUnread fields Depends
IsFirstUnread fields PreDepends = IsReadable fields Depends × IsUnread fields PreDepends
IsFirstUnread fields Provides =
    IsReadable fields Depends × IsReadable fields PreDepends × IsUnread fields Provides
IsFirstUnread fields BuildDepends = ⊥
IsFirstUnread fields BuildDependsArch = ⊥

-- a relation of a package is named as bad if and only if all else of the package can be read and it
-- is the first that is none
abbrev pub BadPackageRelationsAreExact : Type 0
BadPackageRelationsAreExact = (table : List ArchWords) (number : ℕ) (fields : List Entry)
    (field : RelationField) → (binary_at table number fields ≡ Err (BadRelation field))
    ↔ ((p : BinaryPackage) × IsPackage table fields p × IsFirstUnread fields field)

-- the field is the first of the relations of a source's build that is none
abbrev pub IsFirstUnreadBuild : List Entry → RelationField → Type 0
IsFirstUnreadBuild fields Depends = ⊥
IsFirstUnreadBuild fields PreDepends = ⊥
IsFirstUnreadBuild fields Provides = ⊥
IsFirstUnreadBuild fields BuildDepends = IsUnread fields BuildDepends
IsFirstUnreadBuild fields BuildDependsArch =
    IsReadable fields BuildDepends × IsUnread fields BuildDependsArch

-- a source that isn't extra has what it needs, and a version
pub record HasHead (fields : List Entry) : Type 0 where
  pub own : value_of fields (codes "Extra-Source-Only") ≢ Some (codes "yes")
  pub version : List ℕ
  pub arch : List ℕ
  pub has : HasNeeded fields version arch
  pub parts : Parts
  pub readable : IsVersion version parts

-- a relation of a source is named as bad if and only if all else of the source can be read and it
-- is the first that is none
abbrev pub BadSourceRelationsAreExact : Type 0
BadSourceRelationsAreExact = (number : ℕ) (fields : List Entry) (field : RelationField)
    → (kept_source_at number fields ≡ Err (BadRelation field))
    ↔ (HasHead fields × IsFirstUnreadBuild fields field)
