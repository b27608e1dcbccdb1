-- What an archive puts on offer: its binary packages, and the names that they provide. This
-- project's own.
use Rattle.std.specs.Prelude.{ℕ, Bool, true, false, List, [], ◌∷◌, ◌++◌, Option, Some, None, map}
use Rattle.std.specs.Prelude.{option_map, if◌then◌else◌}
use Rattle.std.specs.List.{AllByRecursion, find, flat_map}
use Rattle.std.specs.Str.{bytes_eq}
use Rattle.td_version.specs.Base.{base_of}
use Rattle.td_version.specs.Order.{same_version}
use Rattle.td_version.specs.Version.{Parts}
use Rattle.td_relation.specs.Arch.{ArchWords}
use Rattle.td_relation.specs.Asked.{Asked, Bound}
use Rattle.td_relation.specs.declared.relation.Operator.{Operator}
use Rattle.td_relation.specs.declared.relation.Operator.TheVariants.{Earlier, EarlierOrEqual, Equal}
use Rattle.td_relation.specs.declared.relation.Operator.TheVariants.{LaterOrEqual, Later}
use Rattle.td_supply.specs.Supplied.{Built, Supplied, fresh}
use Rattle.td_supply.specs.Supply.{Stock, SupplyView}
use Rattle.td_supply.specs.VersionTexts.{IsVersionText}
use Rattle.td_indices.specs.Archive.{Contents}
use Rattle.td_indices.specs.Kept.{KeptBinary}
use Rattle.td_indices.specs.Sources.{KeptSource}

-- ---- 1. a binary package

-- the BASE of a later `+bN`: the package's own version without its `+bN` where it was built from
-- the source's present version, or from one equal in order, else the source's
abbrev pub base_version : Parts → Parts → Parts → Parts
base_version own built_from current =
    if same_version built_from current then base_of own else current

-- whose rebuild a package of a source may be, with its version and the one that it was built from:
-- its source's, where the source is kept
abbrev pub build_of : List ℕ → Parts → Parts → Option KeptSource → Option Built
build_of source own built_from found =
    option_map
    (λ s. record { source = source; base = base_version own built_from s.head.parts }) found

-- the source of a name, among sources
abbrev pub named_in : List KeptSource → List ℕ → Option KeptSource
named_in sources name = find (λ s. bytes_eq name s.head.name) sources

-- the package itself, with its version
abbrev pub own_offer : List KeptSource → KeptBinary → Supplied
own_offer sources b =
    record {
      name = b.head.name;
      version = Some b.head.parts;
      arch = b.head.home;
      build = build_of b.head.source b.head.parts b.head.source_parts
          (named_in sources b.head.source);
    }

-- ---- 2. what it provides (Debian Policy 7.5)

-- whether an operator is `=`
abbrev pub is_equal : Operator → Bool
is_equal Equal = true
is_equal Earlier = false
is_equal EarlierOrEqual = false
is_equal LaterOrEqual = false
is_equal Later = false

-- a name without a version, or with the one that `(= v)` gives; other restrictions offer nothing
abbrev pub provided_at : Option ℕ → List ℕ → Option Bound → List Supplied
provided_at home name None = record { name = name; version = None; arch = home; build = None } ∷ []
provided_at home name (Some r) =
    if is_equal r.operator
    then record { name = name; version = Some r.version; arch = home; build = None } ∷ [] else []

-- a member of the field, which has exactly one alternative; its architecture list and its build
-- profile lists say nothing. It is no build: it stays as the index has it
abbrev pub provided : Option ℕ → List Asked → List Supplied
provided home [] = []
provided home (x ∷ []) = provided_at home x.name x.restriction
provided home (x ∷ y ∷ more) = []

-- ---- 3. all

-- what a binary package puts on offer: itself, and what it provides
abbrev pub offers_by : List KeptSource → KeptBinary → List Supplied
offers_by sources b = own_offer sources b ∷ flat_map (provided b.head.home) b.provides

-- a source with its version as it is written
abbrev pub listed : KeptSource → List ℕ × List ℕ
listed s = (s.head.name, s.head.version)

-- what sources and binary packages put on offer, with this table of architectures
abbrev pub stock : List ArchWords → List KeptSource → List KeptBinary → Stock
stock table sources binaries =
    record {
      table = table;
      sources = map listed sources;
      offers = flat_map (offers_by sources) binaries;
    }

-- what the archive puts on offer
abbrev pub supply_of : Contents → Stock
supply_of a = stock a.table a.sources a.binaries

-- ---- the parts of the filling

-- each source's version as it is written is a version
abbrev pub AreRead : List KeptSource → Type 0
AreRead sources = AllByRecursion (λ s. IsVersionText s.head.version) sources

-- a supply with more offers, none of which has been rebuilt
abbrev pub with_offers : SupplyView → List Supplied → SupplyView
with_offers s offers = record s { items = s.items ++ map fresh offers }

-- a supply with more sources, each with its version as it is written
abbrev pub with_sources : SupplyView → List KeptSource → SupplyView
with_sources s sources = record s { sources = s.sources ++ map listed sources }
