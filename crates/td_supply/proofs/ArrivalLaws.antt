-- The laws of an arrival.
use Rattle.std.proofs.Common.{◌≡◌, ℕ, ◌&&◌, Bool, true, false, List, [], ◌∷◌, Option}
use Rattle.std.proofs.Common.{Some, Ok, Err, if◌then◌else◌, map, option_map, slice_get, refl, sym}
use Rattle.std.proofs.Common.{ap, ◌∙◌, inl, inr, eq-eqb}
use Rattle.std.specs.Option.{option_map_or, option_or}
use Rattle.std.specs.Str.{bytes_eq}
use Rattle.std.proofs.lemmas.Bool.{cases_Bool}
use Rattle.std.proofs.lemmas.Slice.Eq.{bytes_eq-Decides}
use Rattle.std.proofs.Math.Bool.{and-false}
use Rattle.std.proofs.lemmas.Option.{slice_get-map}
use Rattle.td_relation.specs.Arch.{ArchWords}
use Rattle.td_relation.specs.Offers.{Offered}
use Rattle.td_relation.specs.RelationGrammar.{relation_at}
use Rattle.td_relation.specs.Table.{place_of}
use Rattle.td_supply.specs.Places.{is_place}
use Rattle.td_supply.specs.Supplied.{Built, Supplied, Item, is_of, is_at, is_built_by, rebuild_of}
use Rattle.td_supply.specs.Supplied.{with_rebuild}
use Rattle.td_supply.specs.Supply.{Stock, SupplyView, arrived, arrived_at, meets_read, nothing}
use Rattle.td_supply.specs.Supply.{offered_now, opened}
use Rattle.td_supply.specs.SupplyLaws.{NothingIsMet, OthersStay, OffersOfAllStay}
use Rattle.td_supply.specs.SupplyLaws.{RebuildsAreOffered, TheLastArrivalStands, TheStockStays}
use Rattle.td_supply.proofs.Arrivals.{arrived-offer}

pub nothing_is_met_so : NothingIsMet
nothing_is_met_so text arch =
    elim (relation_at text) as (λ r. meets_read (opened nothing) arch r ≡ false) [
      | Ok members ↦ refl
      | Err fault ↦ refl
    ]

-- the item with a number after an arrival
item_after : (s : SupplyView) (source arch : List ℕ) (n number : ℕ) (i : Item)
    → slice_get s.items number ≡ Some i
    → slice_get (arrived s source arch n).items number ≡ Some (arrived_at s.table source arch n i)
item_after s source arch n number i at =
    slice_get-map (arrived_at s.table source arch n) s.items number
    ∙ ap (option_map (arrived_at s.table source arch n)) at

pub others_stay : OthersStay
others_stay s source arch n number i at other =
    item_after s source arch n number i at
    ∙ ap (λ (b : Bool). Some (if b then record i { rebuilt = rebuild_of n i.offer } else i)) other

pub offers_of_all_stay : OffersOfAllStay
offers_of_all_stay s source arch n number i at all =
    others_stay s source arch n number i at
    (ap (λ (a : Option ℕ).
    is_of source i.offer && option_map_or (λ place. is_place place (place_of s.table arch)) a false)
    all ∙ and-false (is_of source i.offer))

pub rebuilds_are_offered : RebuildsAreOffered
rebuilds_are_offered s source arch n number place i b at is same found there =
    let named : is_of source i.offer ≡ true =
    ap (λ (o : Option Built). option_map_or (λ (x : Built). bytes_eq source x.source) o false) is
    ∙ (bytes_eq-Decides source b.source).1 (sym same) in
    let home : is_at s.table arch i.offer ≡ true =
    ap (λ (a : Option ℕ). option_map_or (λ (p : ℕ). is_place p (place_of s.table arch)) a false)
    there
    ∙ ap (is_place place) found ∙ eq-eqb place place refl in
    let own : is_built_by s.table source arch i.offer ≡ true = rw (named, home) refl in
    ap (option_map offered_now) (item_after s source arch n number i at)
    ∙ ap (λ (t : Bool).
    Some (offered_now (if t then record i { rebuilt = rebuild_of n i.offer } else i))) own
    ∙ ap (λ (o : Option Built).
    let t : Offered = record {
      version = option_or (option_map (λ (x : Built). with_rebuild x.base n) o) i.offer.version;
      arch = i.offer.arch;
    } in Some t) is
    ∙ ap (λ (a : Option ℕ).
    let t : Offered = record { version = Some (with_rebuild b.base n); arch = a } in Some t) there

once : (table : List ArchWords) (source arch : List ℕ) (m n : ℕ) (i : Item)
    → arrived_at table source arch n (arrived_at table source arch m i)
    ≡ arrived_at table source arch n i
once table source arch m n i =
    elim (cases_Bool (is_built_by table source arch i.offer)) [
      | inl is ↦ rw (is, is) refl
      | inr other ↦ rw (other, other) refl
    ]

twice : (table : List ArchWords) (source arch : List ℕ) (m n : ℕ) (items : List Item)
    → map (arrived_at table source arch n) (map (arrived_at table source arch m) items)
    ≡ map (arrived_at table source arch n) items
twice table source arch m n [] = refl
twice table source arch m n (i ∷ items) =
    let head = once table source arch m n i in let tail = twice table source arch m n items in cc

pub the_last_arrival_stands : TheLastArrivalStands
the_last_arrival_stands s source arch m n =
    ap (λ (l : List Item). record s { items = l }) (twice s.table source arch m n s.items)

offers_stay : (table : List ArchWords) (source arch : List ℕ) (n : ℕ) (items : List Item)
    → map (λ (i : Item). i.offer) (map (arrived_at table source arch n) items)
    ≡ map (λ (i : Item). i.offer) items
offers_stay table source arch n [] = refl
offers_stay table source arch n (i ∷ items) =
    let head = arrived-offer table source arch n i in
    let tail = offers_stay table source arch n items in cc

pub the_stock_stays : TheStockStays
the_stock_stays s source arch n =
    ap (λ (l : List Supplied).
    let t : Stock = record { table = s.table; sources = s.sources; offers = l } in t)
    (offers_stay s.table source arch n s.items)
