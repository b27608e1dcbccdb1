-- What each offer of an archive comes from: Debian Policy 7.5; that other restrictions than `(= v)`
-- offer nothing is this project's own.
use Rattle.std.specs.Prelude.{◌≡◌, ◌⊎◌, ◌↔◌, [], ◌∷◌, Option, Some, None, Contains}
use Rattle.td_version.specs.Version.{Parts}
use Rattle.td_relation.specs.Asked.{Asked, Bound}
use Rattle.td_relation.specs.declared.relation.Operator.TheVariants.{Equal}
use Rattle.td_supply.specs.Supplied.{Supplied}
use Rattle.td_indices.specs.Archive.{Contents, source_named}
use Rattle.td_indices.specs.Kept.{KeptBinary}
use Rattle.td_indices.specs.Supplying.{build_of, supply_of}

-- the package itself: its name with its version, where it is
pub record IsItself (a : Contents) (b : KeptBinary) (o : Supplied) : Type 0 where
  pub name : o.name ≡ b.head.name
  pub version : o.version ≡ Some b.head.parts
  pub arch : o.arch ≡ b.head.home
  pub build : o.build
      ≡ build_of b.head.source b.head.parts b.head.source_parts (source_named a b.head.source)

-- `foo` is offered without a version, `foo (= 1.2)` with that one; nothing else is offered
abbrev pub IsOfferedAt : Option Bound → Option Parts → Type 0
IsOfferedAt None version = version ≡ None
IsOfferedAt (Some r) version = (r.operator ≡ Equal) × (version ≡ Some r.version)

-- a name that the package provides: a member of its Provides field that has this one alternative.
-- No rebuild changes it
pub record IsProvidedBy (b : KeptBinary) (o : Supplied) : Type 0 where
  pub alternative : Asked
  pub member : Contains b.provides (alternative ∷ [])
  pub name : o.name ≡ alternative.name
  pub version : IsOfferedAt alternative.restriction o.version
  pub arch : o.arch ≡ b.head.home
  pub build : o.build ≡ None

-- a package that is kept, and what it offers
pub record ComesOf (a : Contents) (o : Supplied) : Type 0 where
  pub binary : KeptBinary
  pub kept : Contains a.binaries binary
  pub offered : IsItself a binary o ⊎ IsProvidedBy binary o

-- an archive puts an offer on offer if and only if it comes of one of its packages
abbrev pub OffersAreExact : Type 0
OffersAreExact = (a : Contents) (o : Supplied) → Contains (supply_of a).offers o ↔ ComesOf a o
