-- Which field of a stanza is named as missing: the first that is, of Package, Version, Architecture
-- and Source. That order is this project's own; what the fields hold is Debian Policy 5.3, 5.4 and
-- 5.6.1.
use Rattle.std.specs.Prelude.{◌≡◌, ◌≢◌, ◌↔◌, ℕ, IsTrue, false, List, ◌++◌, Option, Some, None, Err}
use Rattle.std.specs.Prelude.{codes}
use Rattle.td_text.specs.Words.{is_name}
use Rattle.td_text.specs.Runs.{is_blank}
use Rattle.td_stanza.specs.Field.{Entry}
use Rattle.td_relation.specs.Arch.{ArchWords}
use Rattle.td_indices.specs.declared.archive_fault.IndexField.{IndexField}
use Rattle.td_indices.specs.declared.archive_fault.IndexField.TheVariants.{Package, Version}
use Rattle.td_indices.specs.declared.archive_fault.IndexField.TheVariants.{Architecture, Source}
use Rattle.td_indices.specs.declared.archive_fault.EntryFault.TheVariants.{Missing}
use Rattle.td_indices.specs.Binaries.{home_of}
use Rattle.td_indices.specs.Fields.{value_of}
use Rattle.td_indices.specs.Kept.{binary_at}
use Rattle.td_indices.specs.Needed.{HasNeeded}
use Rattle.td_indices.specs.Sources.{kept_source_at}

-- a legal name stands in the field Package
abbrev pub IsNamed : List Entry → Type 0
IsNamed fields = (name : List ℕ) × (value_of fields (codes "Package") ≡ Some name)
    × IsTrue (is_name name)

-- the field Package has no legal name, or isn't there
abbrev pub IsNameless : List Entry → Type 0
IsNameless fields =
    (name : List ℕ) → value_of fields (codes "Package") ≡ Some name → is_name name ≡ false

-- this field of a stanza is the first that is missing; when Source is, is given
abbrev pub IsFirstMissing : List Entry → Type 0 → IndexField → Type 0
IsFirstMissing fields source Package = IsNameless fields
IsFirstMissing fields source Version =
    IsNamed fields × (value_of fields (codes "Version") ≡ None)
IsFirstMissing fields source Architecture =
    IsNamed fields × ((version : List ℕ) × (value_of fields (codes "Version") ≡ Some version))
    × (value_of fields (codes "Architecture") ≡ None)
IsFirstMissing fields source Source = source

-- a text that is neither a legal name, nor one with a bracket after it
pub record NamesNoSource (text : List ℕ) : Type 0 where
  pub no_name : is_name text ≡ false
  pub no_front : (source space rest : List ℕ) → text ≡ source ++ (space ++ (codes "(" ++ rest))
      → IsTrue (is_name source) → IsTrue (is_blank space) → ⊥

-- a package that is here has the three fields, and its Source field names no source
pub record LacksSource (table : List ArchWords) (fields : List Entry) : Type 0 where
  pub version : List ℕ
  pub arch : List ℕ
  pub home : Option ℕ
  pub has : HasNeeded fields version arch
  pub here : home_of table arch ≡ Some home
  pub text : List ℕ
  pub there : value_of fields (codes "Source") ≡ Some text
  pub unnamed : NamesNoSource text

-- a field of a package is named as missing if and only if it is the first that is
abbrev pub MissingPackageFieldsAreExact : Type 0
MissingPackageFieldsAreExact =
    (table : List ArchWords) (number : ℕ) (fields : List Entry) (field : IndexField)
    → (binary_at table number fields ≡ Err (Missing field))
    ↔ IsFirstMissing fields (LacksSource table fields) field

-- a field of a source is named as missing if and only if the source isn't extra and the field is
-- the first that is; no Source field is read
abbrev pub MissingSourceFieldsAreExact : Type 0
MissingSourceFieldsAreExact =
    (number : ℕ) (fields : List Entry) (field : IndexField)
    → (kept_source_at number fields ≡ Err (Missing field))
    ↔ ((value_of fields (codes "Extra-Source-Only") ≢ Some (codes "yes"))
    × IsFirstMissing fields ⊥ field)
