-- A row is held while what it waits for hasn't arrived.
use Rattle.std.proofs.Common.{◌≡◌, ◌⊎◌, ℕ, ◌<◌, ◌≤◌, ◌^◌, ◌||◌, Bool, true, false, List, []}
use Rattle.std.proofs.Common.{◌∷◌, cond, map, Option, Some, None, refl, sym, ap, subst, ◌∙◌, inl}
use Rattle.std.proofs.Common.{inr, length, arith}
use Rattle.std.specs.Prelude.{filter, slice_get}
use Rattle.std.specs.List.{Contains, cons_option, filter_map, list_any}
use Rattle.std.specs.Option.{option_map_or, option_or}
use Rattle.std.specs.Ordering.{is_ge}
use Rattle.std.specs.Str.{bytes_eq}
use Rattle.std.specs.declared.cmp.Ordering.TheVariants.{Less}
use Rattle.std.proofs.lemmas.Bool.{and_from, and_parts, cases_Bool, cond-false, cond-true, eq-eqb}
use Rattle.std.proofs.lemmas.Bool.{eqb-true, leb-true}
use Rattle.std.proofs.lemmas.Cmp.{nat_cmp_total, tied_itself}
use Rattle.std.proofs.lemmas.Slice.Eq.{bytes_eq-Decides}
use Rattle.td_text.proofs.Chain.{some_is}
use Rattle.td_version.specs.Order.{version_cmp}
use Rattle.td_version.specs.Version.{Parts}
use Rattle.td_version.proofs.Rising.{part_cmp-suffixes}
use Rattle.td_version.proofs.Total.{part_total}
use Rattle.td_relation.specs.Arch.{ArchWords}
use Rattle.td_relation.specs.declared.relation.Operator.TheVariants.{LaterOrEqual}
use Rattle.td_relation.specs.Asked.{Bound}
use Rattle.td_relation.specs.Meeting.{accepts, is_on, is_there, member_met, met, satisfies, suits}
use Rattle.td_relation.specs.Offers.{Offered}
use Rattle.td_relation.specs.RelationWriting.{alternative_asked}
use Rattle.td_relation.specs.Table.{place_of}
use Rattle.td_rows.specs.declared.row.Row.{Row}
use Rattle.td_supply.specs.Places.{is_place}
use Rattle.td_supply.specs.Supplied.{Built, Item, Supplied, fresh, is_at, is_built_by, is_of}
use Rattle.td_supply.specs.Supplied.{rebuild_of, with_rebuild}
use Rattle.td_supply.specs.Supply.{Stock, SupplyView, arrived, arrived_at, is_named}
use Rattle.td_supply.specs.Supply.{meets_read, met_at, offered_now, offers_of, opened}
use Rattle.td_indices.specs.Kept.{KeptBinary}
use Rattle.td_indices.specs.OfferLaws.{IsItself, IsProvidedBy}
use Rattle.td_indices.specs.PackageKeys.{same_home}
use Rattle.td_indices.specs.Sources.{KeptSource}
use Rattle.td_indices.specs.Supplying.{own_offer, supply_of}
use Rattle.td_indices.proofs.OfferLaws.{has_cases, has_first, has_more, offers_are_exact}
use Rattle.td_plan.specs.Due.{arrival_number, has_number, is_due, is_ready, number_of}
use Rattle.td_plan.specs.Packages.{arrival_base}
use Rattle.td_plan.specs.Plan.{is_beside}
use Rattle.td_plan.specs.Premises.{AreSound, PackagesAreApart, Premises, arch_at, key_at, row_at}
use Rattle.td_plan.specs.Relations.{member_of}
use Rattle.td_plan.specs.WaitLaws.{Arrival, HasNotArrived, IsInIndex, RowsAreHeld, after_arrivals}
use Rattle.td_plan.specs.WaitLaws.{members_of}
use Rattle.td_plan.specs.Waits.{Wait, awaited, is_wait_before, wait_of, waits_of}
use Rattle.td_plan.proofs.AlwaysWaited.{all-at}
use Rattle.td_plan.proofs.Chosen.{any-found, filter-found, in_order-again, map-again, map-found}
use Rattle.td_plan.proofs.Downward.{awaited-found}
use Rattle.td_plan.proofs.Freed.{IsWaitedFor, built-is, rebuild-is, there-at, waited-for}
use Rattle.td_plan.proofs.Named.{named-by}
use Rattle.td_plan.proofs.ToldOnce.{place-named}

-- ---- 1. what arrivals change

-- an offer that a rebuild may replace: a binary package on an architecture of its own
record IsBuild (o : Supplied) : Type 0 where
  pub built : Built
  pub of : o.build ≡ Some built
  pub place : ℕ
  pub at : o.arch ≡ Some place

-- an item is one of the offers, and only a binary package on an architecture of its own is rebuilt
abbrev IsFrom : List Supplied → Item → Type 0
IsFrom offers i = Contains offers i.offer × ((i.rebuilt ≡ None) ⊎ IsBuild i.offer)

-- a supply has the table of a stock, and each of its items is from the stock's offers
record IsAfter (x : Stock) (v : SupplyView) : Type 0 where
  pub table : v.table ≡ x.table
  pub each : (i : Item) → Contains v.items i → IsFrom x.offers i

passed : {A : Type 0} (test : A → Bool) (o : Option A) → option_map_or test o false ≡ true
    → (x : A) × (o ≡ Some x) × (test x ≡ true)
passed test None h = absurd (let bad : false ≡ true = h in cc)
passed test (Some x) h = (x, refl, h)

built-build : (table : List ArchWords) (source arch : List ℕ) (o : Supplied)
    → is_built_by table source arch o ≡ true → IsBuild o
built-build table source arch o h =
    let both = and_parts (is_of source o) (is_at table arch o) h in
    let of = passed (λ (b : Built). bytes_eq source b.source) o.build both.0 in
    let at = passed (λ (k : ℕ). is_place k (place_of table arch)) o.arch both.1 in
    record { built = of.0; of = of.1; place = at.0; at = at.1 }

opened-after : (x : Stock) → IsAfter x (opened x)
opened-after x = record {
  table = refl;
  each = λ i has.
      let r = map-found fresh x.offers i has in
      subst (IsFrom x.offers) r.2 (r.1, inl refl);
}

arrived-from : (table : List ArchWords) (source arch : List ℕ) (n : ℕ) (offers : List Supplied)
    (i : Item) → IsFrom offers i → IsFrom offers (arrived_at table source arch n i)
arrived-from table source arch n offers i h =
    let built = is_built_by table source arch i.offer in
    let next : Item = record i { rebuilt = rebuild_of n i.offer } in
    elim (cases_Bool built) [
      | inl is ↦ subst (IsFrom offers) (sym (cond-true built next i is))
          (h.0, inr (built-build table source arch i.offer is))
      | inr other ↦ subst (IsFrom offers) (sym (cond-false built next i other)) h
    ]

arrived-after : (x : Stock) (v : SupplyView) (source arch : List ℕ) (n : ℕ) → IsAfter x v
    → IsAfter x (arrived v source arch n)
arrived-after x v source arch n h = record {
  table = h.table;
  each = λ i has.
      let r = map-found (arrived_at v.table source arch n) v.items i has in
      subst (IsFrom x.offers) r.2
      (arrived-from v.table source arch n x.offers r.0 (h.each r.0 r.1));
}

arrivals-after : (x : Stock) (v : SupplyView) (arrivals : List Arrival) → IsAfter x v
    → IsAfter x (after_arrivals v arrivals)
arrivals-after x v [] h = h
arrivals-after x v (a ∷ arrivals) h =
    arrivals-after x (arrived v a.source a.arch a.number) arrivals
    (arrived-after x v a.source a.arch a.number h)

-- ---- 2. what meets a wait

or-nothing : (b : Bool) → (b || false) ≡ true → b ≡ true
or-nothing true h = refl
or-nothing false h = h

-- an item whose offer, as it is now, meets a wait
record MeetsWait (v : SupplyView) (place : ℕ) (w : Wait) : Type 0 where
  pub item : Item
  pub has : Contains v.items item
  pub name : item.offer.name ≡ w.name
  pub there : is_on place item.offer.arch ≡ true
  pub version : Parts
  pub is : option_or item.rebuilt item.offer.version ≡ Some version
  pub late : is_ge (version_cmp version w.parts) ≡ true

satisfied : (bound : Bound) (o : Option Parts) → satisfies (Some bound) o ≡ true
    → (version : Parts) × (o ≡ Some version)
    × (accepts bound.operator (version_cmp version bound.version) ≡ true)
satisfied bound None h = absurd (let bad : false ≡ true = h in cc)
satisfied bound (Some version) h = (version, refl, h)

wait-meets : (v : SupplyView) (place : ℕ) (a : ArchWords) (w : Wait)
    → member_met (offers_of v.items) place a (map alternative_asked (member_of w)) ≡ true
    → MeetsWait v place w
wait-meets v place a w h =
    let bound : Bound = record { operator = LaterOrEqual; version = w.parts } in
    let some = or-nothing (list_any (suits place (Some bound)) (offers_of v.items w.name)) h in
    let offer = any-found (suits place (Some bound)) (offers_of v.items w.name) some in
    let item = map-found offered_now (filter (is_named w.name) v.items) offer.0 offer.1 in
    let named = filter-found (is_named w.name) v.items item.0 item.1 in
    let both = and_parts (is_there place offer.0) (satisfies (Some bound) offer.0.version)
    offer.2 in
    let late = satisfied bound offer.0.version both.1 in
    record {
      item = item.0;
      has = named.0;
      name = sym ((bytes_eq-Decides w.name item.0.offer.name).0 named.1);
      there = ap (λ (o : Offered). is_on place o.arch) item.2 ∙ both.0;
      version = late.0;
      is = ap (λ (o : Offered). o.version) item.2 ∙ late.1;
      late = late.2;
    }

-- ---- 3. versions

-- a rebuild is above each of the same version with a lower number
pub rebuilds-rise : (base : Parts) (m n : ℕ) → m < n → n < 2 ^ 64
    → version_cmp (with_rebuild base m) (with_rebuild base n) ≡ Less
rebuilds-rise base m n lower small = by base.epoch base.upstream base.revision
  where
    by : (e : ℕ) (u : List ℕ) (r : Option (List ℕ))
        → version_cmp (with_rebuild (record { epoch = e; upstream = u; revision = r }) m)
        (with_rebuild (record { epoch = e; upstream = u; revision = r }) n) ≡ Less
    by e u None =
        rw (tied_itself nat_cmp_total e, part_cmp-suffixes u m n lower small) refl
    by e u (Some r) =
        rw (
          tied_itself nat_cmp_total e,
          tied_itself part_total u,
          part_cmp-suffixes r m n lower small,
        ) refl

-- the number of an arrival is within the limit
pub arrival-within : (p : Premises) → AreSound p → (t : KeptSource) (place : ℕ)
    → arrival_number p t place ≤ 9999
arrival-within p sound t place = by (is_due p t place) refl
  where
    row : (o : Option Row) → row_at p t place ≡ o → option_map_or (λ r. r.number) o 0 ≤ 9999
    row None is = omega arith
    row (Some r) is = (sound.of_archive (key_at p t place) r is).limited

    by : (b : Bool) → is_due p t place ≡ b → cond b (number_of p t)
        (option_map_or (λ r. r.number) (row_at p t place) 0) ≤ 9999
    by true is = leb-true (number_of p t) 9999
        (and_parts (has_number p t) (is_ready p t place) is).0
    by false is = row (row_at p t place) refl

-- ---- 4. whose an offer is

itself-is : (p : Premises) (c : KeptBinary) (o : Supplied) → IsItself p.archive c o
    → own_offer p.archive.sources c ≡ o
itself-is p c o own = λ i. record {
  name = sym own.name i;
  version = sym own.version i;
  arch = sym own.arch i;
  build = sym own.build i;
}

-- a package of the awaited name on that architecture is the one that is waited for
module _ (p : Premises) (t : KeptSource) (place : ℕ) (w : Wait) (apart : PackagesAreApart p)
    (waited : IsWaitedFor p t place w) (o : Supplied) (name : o.name ≡ w.name)
    (there : is_on place o.arch ≡ true) where
  pub same-is : (k : ℕ) → o.arch ≡ Some k → (c : KeptBinary) → Contains p.archive.binaries c
      → IsItself p.archive c o → waited.binary ≡ c
  same-is k at c has own =
      let here : is_on place (Some k) ≡ true = ap (is_on place) (sym at) ∙ there in
      let arch : o.arch ≡ Some place = at ∙ ap (λ (m : ℕ). Some m) (eqb-true k place here) in
      apart waited.binary c waited.kept has (and_from
      (bytes_eq waited.binary.head.name c.head.name)
      (same_home waited.binary.head.home c.head.home)
      ((bytes_eq-Decides waited.binary.head.name c.head.name).1
      (sym waited.name ∙ sym name ∙ own.name))
      (ap (λ (h : Option ℕ). same_home h c.head.home) waited.there
      ∙ ap (same_home (Some place)) (sym own.arch ∙ arch) ∙ eq-eqb place place refl))

  -- an offer that a rebuild may replace is no provided name, so it is that package's
  offer-by : IsBuild o → (c : KeptBinary) → Contains p.archive.binaries c
      → IsItself p.archive c o ⊎ IsProvidedBy c o
      → own_offer p.archive.sources waited.binary ≡ o
  offer-by build c has (inl own) =
      ap (own_offer p.archive.sources) (same-is build.place build.at c has own)
      ∙ itself-is p c o own
  offer-by build c has (inr provided) =
      absurd (let bad : None ≡ Some build.built = sym provided.build ∙ build.of in cc)

  offer-is : IsBuild o → Contains (supply_of p.archive).offers o
      → own_offer p.archive.sources waited.binary ≡ o
  offer-is build from =
      let comes = (offers_are_exact p.archive o).0 from in
      offer-by build comes.binary comes.kept comes.offered

-- ---- 5. what meets a wait is in the index

module _ (p : Premises) (t : KeptSource) (place : ℕ) (v : SupplyView) (w : Wait)
    (h : MeetsWait v place w) (from : Contains (supply_of p.archive).offers h.item.offer) where
  -- an item that isn't rebuilt is offered in the index's version
  unbuilt : h.item.rebuilt ≡ None → IsInIndex p place w
  unbuilt none = record {
    offer = h.item.offer;
    offered = from;
    name = h.name;
    there = h.there;
    version = h.version;
    has = ap (λ (o : Option Parts). option_or o h.item.offer.version) (sym none) ∙ h.is;
    late = h.late;
  }

  module _ (build : IsBuild h.item.offer) (sound : AreSound p) (apart : PackagesAreApart p)
      (low : place < length p.archive.table) (kept : Contains p.archive.sources t)
      (waited : IsWaitedFor p t place w) where
    item-is : own_offer p.archive.sources waited.binary ≡ h.item.offer
    item-is = offer-is p t place w apart waited h.item.offer h.name h.there build from

    item-built : is_built_by p.archive.table t.head.name (arch_at p.archive.table place)
        h.item.offer ≡ true
    item-built =
        ap (is_built_by p.archive.table t.head.name (arch_at p.archive.table place)) (sym item-is)
        ∙ built-is p.archive t waited.binary place (arch_at p.archive.table place)
        (named-by p sound t kept) waited.own waited.there
        (place-named p.archive.table place sound.apart low)

    -- a rebuild with a lower number doesn't meet the wait
    lower-fails : (m : ℕ) → m < arrival_number p t place
        → h.item.rebuilt ≡ rebuild_of m h.item.offer → ⊥
    lower-fails m lower is =
        let n = arrival_number p t place in
        let base = arrival_base t waited.binary in
        let within = arrival-within p sound t place in
        let rebuilt : h.item.rebuilt ≡ Some (with_rebuild base m) =
        is ∙ ap (rebuild_of m) (sym item-is)
        ∙ rebuild-is p.archive t waited.binary m (named-by p sound t kept) waited.own in
        let version : Some (with_rebuild base m) ≡ Some h.version =
        ap (λ (o : Option Parts). option_or o h.item.offer.version) (sym rebuilt) ∙ h.is in
        let same = some_is (with_rebuild base m) h.version version in
        let less : version_cmp h.version w.parts ≡ Less =
        ap (λ (x : Parts). version_cmp x w.parts) (sym same)
        ∙ ap (version_cmp (with_rebuild base m)) waited.parts
        ∙ rebuilds-rise base m n lower (omega arith) in
        let bad : false ≡ true = sym (ap is_ge less) ∙ h.late in cc

    built-in : HasNotArrived p v t place (arrival_number p t place) → IsInIndex p place w
    built-in waits = elim (waits h.item h.has item-built) [
      | inl none ↦ unbuilt none
      | inr lower ↦ absurd (lower-fails lower.0 lower.1 lower.2)
    ]

-- ---- 6. the whole

filter_map-again : {A B : Type 0} (f : A → Option B) (xs : List A) (x : A) (y : B)
    → Contains xs x → f x ≡ Some y → Contains (filter_map f xs) y
filter_map-again f [] x y has is = let low = has.1 in absurd (omega arith)
filter_map-again {A} {B} f (z ∷ xs) x y has is = elim (has_cases z xs x has) [
  | inl same ↦ subst (λ (o : Option B). Contains (cons_option o (filter_map f xs)) y)
      (sym (ap f same ∙ is)) (has_first y (filter_map f xs))
  | inr more ↦ later (f z) (filter_map-again f xs x y more is)
]
  where
    later : (o : Option B) → Contains (filter_map f xs) y
        → Contains (cons_option o (filter_map f xs)) y
    later None h = h
    later (Some first) h = has_more first (filter_map f xs) y h

pub rows_are_held : RowsAreHeld
rows_are_held p x s t place v w planned apart offered has is not_there read met_now =
    let a = p.archive in
    let waits = waits_of (is_beside x s) p s place in
    let sound = planned.sound in
    let after = subst (IsAfter (supply_of a)) (sym offered.is)
    (arrivals-after (supply_of a) (opened (supply_of a)) offered.arrivals
    (opened-after (supply_of a))) in
    let table : v.table ≡ a.table = after.table in
    let at : place_of v.table (arch_at a.table place) ≡ Some place =
    ap (λ (l : List ArchWords). place_of l (arch_at a.table place)) table
    ∙ place-named a.table place sound.apart planned.there in
    let arch = there-at a.table place planned.there in
    let here : slice_get v.table place ≡ Some arch.0 =
    ap (λ (l : List ArchWords). slice_get l place) table ∙ arch.1 in
    let members : met (offers_of v.items) place arch.0 (members_of waits) ≡ true =
    sym (ap (λ (o : Option ArchWords). option_map_or (λ (c : ArchWords).
    met (offers_of v.items) place c (members_of waits)) o false) here)
    ∙ sym (ap (met_at v (members_of waits)) at)
    ∙ sym (ap (meets_read v (arch_at a.table place)) read) ∙ met_now in
    let in_waits : Contains waits w = in_order-again is_wait_before _ w
    (filter_map-again (wait_of p s place) (awaited (is_beside x s) p s place) t w has is) in
    let h = wait-meets v place arch.0 w
    (all-at (member_met (offers_of v.items) place arch.0) (members_of waits)
    (map alternative_asked (member_of w)) members
    (map-again (λ (u : Wait). map alternative_asked (member_of u)) waits w in_waits)) in
    let from = after.each h.item h.has in
    elim from.1 [
      | inl none ↦ unbuilt p t place v w h from.0 none
      | inr build ↦ built-in p t place v w h from.0 build sound apart planned.there
          (awaited-found x p s place t has).kept (waited-for p s t place w is) not_there
    ]
