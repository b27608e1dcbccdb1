-- In which order the faults of a stanza come: first the fields that it needs, then its versions,
-- then its relations. This project's own.
use Rattle.std.specs.Prelude.{◌≡◌, ℕ, List, Option, Some, Err}
use Rattle.td_stanza.specs.Field.{Entry}
use Rattle.td_version.specs.Grammar.{IsVersion}
use Rattle.td_version.specs.Version.{Parts}
use Rattle.td_relation.specs.Arch.{ArchWords}
use Rattle.td_indices.specs.declared.archive_fault.VersionField.{VersionField}
use Rattle.td_indices.specs.declared.archive_fault.RelationField.{RelationField}
use Rattle.td_indices.specs.declared.archive_fault.EntryFault.TheVariants.{BadRelation, BadVersion}
use Rattle.td_indices.specs.Binaries.{BinaryPackage, home_of}
use Rattle.td_indices.specs.Kept.{binary_at}
use Rattle.td_indices.specs.Needed.{HasNeeded}
use Rattle.td_indices.specs.PackageStanzas.{IsPackage}
use Rattle.td_indices.specs.Sources.{kept_source_at}

-- a package has a bad version only where it has what it needs and is here, and a bad relation only
-- where all else of it can be read
abbrev pub PackageFaultsComeInOrder : Type 0
PackageFaultsComeInOrder =
    (table : List ArchWords) (number : ℕ) (fields : List Entry) →
    ((field : VersionField) → binary_at table number fields ≡ Err (BadVersion field)
    → (version arch : List ℕ) × (home : Option ℕ)
    × HasNeeded fields version arch × (home_of table arch ≡ Some home))
    × ((field : RelationField) → binary_at table number fields ≡ Err (BadRelation field)
    → (p : BinaryPackage) × IsPackage table fields p)

-- a source has a bad version only where it has what it needs, and a bad relation only where its
-- version can be read too
abbrev pub SourceFaultsComeInOrder : Type 0
SourceFaultsComeInOrder =
    (number : ℕ) (fields : List Entry) →
    ((field : VersionField) → kept_source_at number fields ≡ Err (BadVersion field)
    → (version arch : List ℕ) × HasNeeded fields version arch)
    × ((field : RelationField) → kept_source_at number fields ≡ Err (BadRelation field)
    → (version arch : List ℕ) × (parts : Parts)
    × HasNeeded fields version arch × IsVersion version parts)
