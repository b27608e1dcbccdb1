-- A supply: what the index offers, and what has arrived since. This project's own.
use Rattle.std.specs.Prelude.{ℕ, Bool, false, List, [], ◌∷◌, ◌++◌, Option, Some, None, Ok, Err}
use Rattle.std.specs.Prelude.{Result, alloc_error, filter, map, option_map, slice_get}
use Rattle.std.specs.Prelude.{if◌then◌else◌}
use Rattle.std.specs.declared.alloc.AllocError.{AllocError}
use Rattle.std.specs.List.{find}
use Rattle.std.specs.Option.{option_map_or, option_or}
use Rattle.std.specs.Str.{bytes_eq}
use Rattle.td_relation.specs.declared.relation_fault.RelationFault.{RelationFault}
use Rattle.td_relation.specs.declared.relation_fault.RelationFault.TheVariants.{NoMemory}
use Rattle.td_relation.specs.Arch.{ArchWords}
use Rattle.td_relation.specs.Asked.{Asked}
use Rattle.td_relation.specs.Meeting.{met}
use Rattle.td_relation.specs.Offers.{Offered}
use Rattle.td_relation.specs.RelationGrammar.{relation_at}
use Rattle.td_relation.specs.Table.{place_of}
use Rattle.td_supply.specs.Supplied.{Supplied, Item, fresh, is_built_by, rebuild_of}

-- what doesn't change: the table of architectures,
-- the sources with their versions as they are written, and the offers of the index
pub record Stock : Type 0 where
  pub table : List ArchWords
  pub sources : List (List ℕ × List ℕ)
  pub offers : List Supplied

-- the table of architectures, the sources with their versions as they are written, and the offers
-- with what has arrived
pub record SupplyView : Type 0 where
  pub table : List ArchWords
  pub sources : List (List ℕ × List ℕ)
  pub items : List Item

-- a supply without what has arrived
abbrev pub stock_of : SupplyView → Stock
stock_of s = record { table = s.table; sources = s.sources; offers = map (λ i. i.offer) s.items }

-- a supply before the first arrival
abbrev pub opened : Stock → SupplyView
opened s = record { table = s.table; sources = s.sources; items = map fresh s.offers }

-- no offers and no sources, with this table of architectures
abbrev pub unstocked : List ArchWords → Stock
unstocked table = record { table = table; sources = []; offers = [] }

-- no architectures either
abbrev pub nothing : Stock
nothing = unstocked []

-- the version of a source, as it is written
abbrev pub version_of : SupplyView → List ℕ → Option (List ℕ)
version_of s name = option_map (λ p. p.1) (find (λ p. bytes_eq name p.0) s.sources)

-- one source more
abbrev pub with_source : SupplyView → List ℕ → List ℕ → SupplyView
with_source s name version = record s { sources = s.sources ++ (name, version) ∷ [] }

-- one offer more
abbrev pub with_offer : SupplyView → Supplied → SupplyView
with_offer s o = record s { items = s.items ++ fresh o ∷ [] }

-- ---- 1. arrivals

-- a rebuild of the source has arrived on exactly this architecture, with this number
abbrev pub arrived_at : List ArchWords → List ℕ → List ℕ → ℕ → Item → Item
arrived_at table source arch n i = if is_built_by table source arch i.offer
    then record i { rebuilt = rebuild_of n i.offer } else i

-- the supply after a rebuild of the source, with this number, has arrived on the architecture
abbrev pub arrived : SupplyView → List ℕ → List ℕ → ℕ → SupplyView
arrived s source arch n = record s { items = map (arrived_at s.table source arch n) s.items }

-- ---- 2. relations

-- an offer as it is now: the version of a rebuild that has arrived instead of the index's
abbrev pub offered_now : Item → Offered
offered_now i = record { version = option_or i.rebuilt i.offer.version; arch = i.offer.arch }

-- whether an offer has this name
abbrev pub is_named : List ℕ → Item → Bool
is_named name i = bytes_eq name i.offer.name

-- the offers of a name, as they are now
abbrev pub offers_of : List Item → List ℕ → List Offered
offers_of items name = map offered_now (filter (is_named name) items)

-- whether they meet what a relation asks, on the architecture at a place
abbrev pub met_at : SupplyView → List (List Asked) → Option ℕ → Bool
met_at s members None = false
met_at s members (Some place) = option_map_or (λ a. met (offers_of s.items) place a members)
    (slice_get s.table place) false

-- whether a relation that was read is met on the architecture with this name;
-- on one that isn't in the table none is, nor is a text that is no relation
abbrev pub meets_read : SupplyView → List ℕ → Result (List (List Asked)) RelationFault → Bool
meets_read s arch (Ok members) = met_at s members (place_of s.table arch)
meets_read s arch (Err fault) = false

-- whether a text is a relation that the offers meet on the architecture with this name
abbrev pub meets : SupplyView → List ℕ → List ℕ → Bool
meets s text arch = meets_read s arch (relation_at text)

-- whether a text is met that can't be read as a relation for this cause: it isn't, unless memory
-- ran out
abbrev pub unread : RelationFault → Result Bool AllocError
unread NoMemory = Err alloc_error
unread fault = Ok false
