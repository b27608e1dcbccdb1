-- What is kept of the stanzas. Which stanzas count is this project's own.
use Rattle.std.specs.Prelude.{ℕ, ◌&&◌, not, Bool, false, List, [], ◌∷◌, Option, Some, None, Result}
use Rattle.std.specs.Prelude.{Ok, map, if◌then◌else◌}
use Rattle.std.specs.Str.{bytes_eq}
use Rattle.std.specs.Ordering.{is_lt}
use Rattle.td_text.specs.Lines.{on_ok}
use Rattle.td_stanza.specs.Field.{Entry}
use Rattle.td_version.specs.Order.{version_cmp}
use Rattle.td_version.specs.Version.{Parts, parts_of}
use Rattle.td_relation.specs.Arch.{ArchWords}
use Rattle.td_relation.specs.Asked.{Asked}
use Rattle.td_indices.specs.declared.archive_fault.RelationField.TheVariants.{Depends, PreDepends}
use Rattle.td_indices.specs.declared.archive_fault.RelationField.TheVariants.{Provides}
use Rattle.td_indices.specs.declared.archive_fault.EntryFault.{EntryFault}
use Rattle.td_indices.specs.declared.packaged.PackageKey.{PackageKey}
use Rattle.td_indices.specs.declared.packaged.Packaged.{Packaged}
use Rattle.td_indices.specs.PackageKeys.{same_home}
use Rattle.td_indices.specs.Fields.{relation_of, asked_by}
use Rattle.td_indices.specs.Binaries.{BinaryPackage, package_at}

-- ---- 1. a binary package

-- what a stanza of Packages provides, where its relations can be read
unfoldable pub provides_at : List Entry → Result (List (List Asked)) EntryFault
provides_at fields =
    on_ok (relation_of fields Depends) (λ depends.
    on_ok (relation_of fields PreDepends) (λ pre_depends.
    relation_of fields Provides))

-- a binary package with what it provides and the number of its stanza, from 0
pub record KeptBinary : Type 0 where
  pub head : BinaryPackage
  pub provides : List (List Asked)
  pub stanza : ℕ

-- a package that is here, with its relations
abbrev pub with_relations : ℕ → List Entry → Option BinaryPackage
    → Result (Option KeptBinary) EntryFault
with_relations number fields None = Ok None
with_relations number fields (Some p) =
    on_ok (provides_at fields)
    (λ provides. Ok (Some (record { head = p; provides = provides; stanza = number })))

-- what a stanza of Packages is kept as; nothing where the package isn't here
unfoldable pub binary_at : List ArchWords → ℕ → List Entry → Result (Option KeptBinary) EntryFault
binary_at table number fields =
    on_ok (package_at table fields) (λ p. with_relations number fields p)

-- two packages of one name and in one place
abbrev pub same_package : KeptBinary → KeptBinary → Bool
same_package a b = bytes_eq a.head.name b.head.name && same_home a.head.home b.head.home

-- the one's version is lower than the other's
abbrev pub lower_package : KeptBinary → KeptBinary → Bool
lower_package a b = is_lt (version_cmp a.head.parts b.head.parts)

-- ---- 2. of several, one

-- one more of the items: instead of the earlier one of its key if that is lower, and after all if
-- there is none of its key
abbrev pub put : {A : Type 0} → (A → A → Bool) → (A → A → Bool) → List A → A → List A
put same lower [] x = x ∷ []
put same lower (y ∷ ys) x =
    if same x y then (if lower y x then x else y) ∷ ys else y ∷ put same lower ys x

-- ---- what the maps hold, without where it lies in memory

-- a package with its key
abbrev pub binary_of : PackageKey × Packaged → KeptBinary
binary_of p = record {
  head = record {
    name = p.0.name.now;
    home = p.0.arch;
    version = p.1.version.now;
    parts = parts_of p.1.parts;
    source = p.1.source.now;
    source_parts = parts_of p.1.source_parts;
  };
  provides = asked_by p.1.provides;
  stanza = p.1.stanza;
}

-- all packages that count, in the map's order
abbrev pub binaries_of : List (PackageKey × Packaged) → List KeptBinary
binaries_of entries = map binary_of entries

-- whether an earlier package isn't lower than a version
abbrev pub stays : Option Packaged → Parts → Bool
stays None parts = false
stays (Some earlier) parts = not (is_lt (version_cmp (parts_of earlier.parts) parts))
