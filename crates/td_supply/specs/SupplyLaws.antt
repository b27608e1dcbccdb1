-- Laws of what is on offer. This project's own.
use Rattle.std.specs.Prelude.{◌≡◌, ℕ, false, List, Some, None, option_map, slice_get}
use Rattle.td_relation.specs.Table.{place_of}
use Rattle.td_supply.specs.Supplied.{Built, Item, is_built_by, with_rebuild}
use Rattle.td_supply.specs.Supply.{SupplyView, stock_of, opened, nothing, arrived, offered_now}
use Rattle.td_supply.specs.Supply.{meets}

-- if there is nothing, not even an architecture, no text is met
abbrev pub NothingIsMet : Type 0
NothingIsMet = (text arch : List ℕ) → meets (opened nothing) text arch ≡ false

-- each offer stays as it was that isn't a binary package of the source on exactly the architecture
abbrev pub OthersStay : Type 0
OthersStay =
    (s : SupplyView) (source arch : List ℕ) (n number : ℕ) (i : Item) →
    slice_get s.items number ≡ Some i → is_built_by s.table source arch i.offer ≡ false →
    slice_get (arrived s source arch n).items number ≡ Some i

-- each offer of `all` stays as it was, whatever arrives
abbrev pub OffersOfAllStay : Type 0
OffersOfAllStay =
    (s : SupplyView) (source arch : List ℕ) (n number : ℕ) (i : Item) →
    slice_get s.items number ≡ Some i → i.offer.arch ≡ None →
    slice_get (arrived s source arch n).items number ≡ Some i

-- each binary package of the source on the architecture is offered at the version of its build with
-- the rebuild's number after it
abbrev pub RebuildsAreOffered : Type 0
RebuildsAreOffered =
    (s : SupplyView) (source arch : List ℕ) (n number place : ℕ) (i : Item) (b : Built) →
    slice_get s.items number ≡ Some i → i.offer.build ≡ Some b → b.source ≡ source →
    place_of s.table arch ≡ Some place → i.offer.arch ≡ Some place →
    option_map offered_now (slice_get (arrived s source arch n).items number)
    ≡ Some (record { version = Some (with_rebuild b.base n); arch = Some place })

-- a later arrival of a source on an architecture leaves nothing of the one before it
abbrev pub TheLastArrivalStands : Type 0
TheLastArrivalStands = (s : SupplyView) (source arch : List ℕ) (m n : ℕ)
    → arrived (arrived s source arch m) source arch n ≡ arrived s source arch n

-- what the index offers stays, beneath what has arrived
abbrev pub TheStockStays : Type 0
TheStockStays = (s : SupplyView) (source arch : List ℕ) (n : ℕ)
    → stock_of (arrived s source arch n) ≡ stock_of s
