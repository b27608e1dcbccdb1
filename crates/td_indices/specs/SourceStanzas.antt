-- Which stanzas of Sources are which sources: Debian Policy 5.4, 5.6; that one with
-- `Extra-Source-Only: yes` is none is this project's own.
use Rattle.std.specs.Prelude.{◌≡◌, ◌≢◌, ◌↔◌, ℕ, IsTrue, List, Some, None, Ok, codes}
use Rattle.td_text.specs.Words.{is_name}
use Rattle.td_stanza.specs.Field.{Entry}
use Rattle.td_version.specs.Grammar.{IsVersion}
use Rattle.td_relation.specs.Asked.{Asked}
use Rattle.td_indices.specs.declared.archive_fault.RelationField.TheVariants.{BuildDepends}
use Rattle.td_indices.specs.declared.archive_fault.RelationField.TheVariants.{BuildDependsArch}
use Rattle.td_indices.specs.Fields.{relation_of, value_of}
use Rattle.td_indices.specs.Sources.{KeptSource, kept_source_at}

-- the stanza with this number is kept as this source: its name is legal, its version readable, and
-- so are the relations of its build
pub record IsKeptSource (number : ℕ) (fields : List Entry) (s : KeptSource) : Type 0 where
  pub own : value_of fields (codes "Extra-Source-Only") ≢ Some (codes "yes")
  pub name : value_of fields (codes "Package") ≡ Some s.head.name
  pub legal : IsTrue (is_name s.head.name)
  pub version : value_of fields (codes "Version") ≡ Some s.head.version
  pub readable : IsVersion s.head.version s.head.parts
  pub archs : value_of fields (codes "Architecture") ≡ Some s.head.archs
  pub depends : List (List Asked)
  pub arch_depends : List (List Asked)
  pub has_depends : relation_of fields BuildDepends ≡ Ok depends
  pub has_arch_depends : relation_of fields BuildDependsArch ≡ Ok arch_depends
  pub numbered : s.stanza ≡ number

-- a stanza is kept as a source if and only if it is that source, and the relations of its build can
-- be read
abbrev pub KeptSourcesAreExact : Type 0
KeptSourcesAreExact =
    (number : ℕ) (fields : List Entry) (s : KeptSource)
    → (kept_source_at number fields ≡ Ok (Some s)) ↔ IsKeptSource number fields s

-- a stanza of Sources is skipped if and only if it is an extra one
abbrev pub SkippedSourcesAreExact : Type 0
SkippedSourcesAreExact =
    (number : ℕ) (fields : List Entry)
    → (kept_source_at number fields ≡ Ok None)
    ↔ (value_of fields (codes "Extra-Source-Only") ≡ Some (codes "yes"))
