-- Which stanzas of Packages are which binary packages, and what a Source field says, by how it is
-- written: Debian Policy 5.3, 5.6.1, deb-control(5).
use Rattle.std.specs.Prelude.{◌≡◌, ◌⊎◌, ◌↔◌, ℕ, IsTrue, List, ◌++◌, Option, Some, None, Ok, codes}
use Rattle.td_text.specs.Words.{is_name}
use Rattle.td_stanza.specs.Field.{Entry}
use Rattle.td_version.specs.Grammar.{IsVersion}
use Rattle.td_version.specs.Version.{Parts}
use Rattle.td_relation.specs.Arch.{ArchWords}
use Rattle.td_relation.specs.Asked.{Asked}
use Rattle.td_text.specs.Runs.{is_blank}
use Rattle.td_indices.specs.declared.archive_fault.RelationField.TheVariants.{Depends, PreDepends}
use Rattle.td_indices.specs.declared.archive_fault.RelationField.TheVariants.{Provides}
use Rattle.td_indices.specs.Binaries.{BinaryPackage, home_of, package_at}
use Rattle.td_indices.specs.Fields.{relation_of, value_of}
use Rattle.td_indices.specs.Kept.{KeptBinary, binary_at}
use Rattle.td_indices.specs.Needed.{HasNeeded}

-- `foo`: only a name; the source has the version that the package has
pub record IsName (text source : List ℕ) (own parts : Parts) : Type 0 where
  pub spelled : text ≡ source
  pub legal : IsTrue (is_name source)
  pub same : parts ≡ own

-- `foo (1.2-3)`: a name and a version in brackets; whitespace may stand between them, and nowhere
-- else (this project's own)
pub record IsNameWithVersion (text source : List ℕ) (parts : Parts) : Type 0 where
  pub space : List ℕ
  pub version : List ℕ
  pub spelled : text ≡ source ++ (space ++ (codes "(" ++ (version ++ codes ")")))
  pub legal : IsTrue (is_name source)
  pub blank : IsTrue (is_blank space)
  pub readable : IsVersion version parts

-- a package of this name and version with this Source field, or with none, has the source of this
-- name and version
abbrev pub HasSource : List ℕ → Parts → Option (List ℕ) → List ℕ → Parts → Type 0
HasSource name own None source parts = (source ≡ name) × (parts ≡ own)
HasSource name own (Some text) source parts =
    IsName text source own parts ⊎ IsNameWithVersion text source parts

-- the stanza with these fields is this binary package: its name is legal, its version readable, its
-- architecture in the table or `all`
pub record IsPackage (table : List ArchWords) (fields : List Entry)
    (p : BinaryPackage) : Type 0 where
  pub name : value_of fields (codes "Package") ≡ Some p.name
  pub legal : IsTrue (is_name p.name)
  pub version : value_of fields (codes "Version") ≡ Some p.version
  pub readable : IsVersion p.version p.parts
  pub arch : List ℕ
  pub there : value_of fields (codes "Architecture") ≡ Some arch
  pub here : home_of table arch ≡ Some p.home
  pub source : HasSource p.name p.parts (value_of fields (codes "Source")) p.source p.source_parts

-- a stanza is read as a package if and only if it is that package
abbrev pub PackagesAreExact : Type 0
PackagesAreExact =
    (table : List ArchWords) (fields : List Entry) (p : BinaryPackage)
    → (package_at table fields ≡ Ok (Some p)) ↔ IsPackage table fields p

-- the stanza with this number is kept as this package: its relations can be read, and its Provides
-- field says what it provides
pub record IsKeptPackage (table : List ArchWords) (number : ℕ) (fields : List Entry)
    (b : KeptBinary) : Type 0 where
  pub head : IsPackage table fields b.head
  pub depends : List (List Asked)
  pub pre_depends : List (List Asked)
  pub has_depends : relation_of fields Depends ≡ Ok depends
  pub has_pre_depends : relation_of fields PreDepends ≡ Ok pre_depends
  pub has_provides : relation_of fields Provides ≡ Ok b.provides
  pub numbered : b.stanza ≡ number

-- a stanza is kept as a package if and only if it is that package, and its relations can be read
abbrev pub KeptPackagesAreExact : Type 0
KeptPackagesAreExact =
    (table : List ArchWords) (number : ℕ) (fields : List Entry) (b : KeptBinary)
    → (binary_at table number fields ≡ Ok (Some b)) ↔ IsKeptPackage table number fields b

-- the stanza is that of a package elsewhere: it has what is needed, and its architecture is neither
-- in the table nor `all`
pub record IsElsewhere (table : List ArchWords) (fields : List Entry) : Type 0 where
  pub version : List ℕ
  pub arch : List ℕ
  pub has : HasNeeded fields version arch
  pub elsewhere : home_of table arch ≡ None

-- a stanza of Packages is skipped if and only if its package is elsewhere
abbrev pub SkippedPackagesAreExact : Type 0
SkippedPackagesAreExact =
    (table : List ArchWords) (number : ℕ) (fields : List Entry)
    → (binary_at table number fields ≡ Ok None) ↔ IsElsewhere table fields
