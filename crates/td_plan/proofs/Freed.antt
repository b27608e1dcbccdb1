-- A row is freed once all that it waits for has arrived.
use Rattle.std.proofs.Common.{◌≡◌, ◌⊎◌, ℕ, zero, suc, ◌<◌, ◌&&◌, not, Bool, true, false, List, []}
use Rattle.std.proofs.Common.{◌∷◌, length, map, Option, Some, None, refl, sym, ap, subst, ◌∙◌, inl}
use Rattle.std.proofs.Common.{inr}
use Rattle.std.proofs.Common.{arith}
use Rattle.std.specs.Prelude.{filter, fold, option_map, slice_get}
use Rattle.std.specs.List.{Contains, cons_option, filter_map, list_all, list_any}
use Rattle.std.specs.Option.{option_map_or, option_or}
use Rattle.std.specs.Ordering.{is_ge}
use Rattle.std.specs.Str.{bytes_eq}
use Rattle.std.proofs.lemmas.Bool.{and_from, and_parts, cases_Bool, cond-false, cond-true, eq-eqb}
use Rattle.std.proofs.lemmas.Bool.{eqb-true, or_left, or_right}
use Rattle.std.proofs.lemmas.Cmp.{tied_itself}
use Rattle.std.proofs.lemmas.Slice.Eq.{bytes_eq-Decides}
use Rattle.td_text.proofs.Chain.{some_is}
use Rattle.td_version.specs.Version.{Parts}
use Rattle.td_version.proofs.Total.{version_total}
use Rattle.td_relation.specs.Arch.{ArchWords}
use Rattle.td_relation.specs.declared.relation.Operator.TheVariants.{LaterOrEqual}
use Rattle.td_relation.specs.Asked.{Asked, Bound}
use Rattle.td_relation.specs.Meeting.{active, alternative_met, is_on, member_met, met, satisfies}
use Rattle.td_relation.specs.Meeting.{suits}
use Rattle.td_relation.specs.RelationWriting.{alternative_asked}
use Rattle.td_relation.specs.Table.{IsApart, place_of}
use Rattle.td_supply.specs.Places.{is_place}
use Rattle.td_supply.specs.Supplied.{Built, Item, Supplied, is_built_by, rebuild_of, with_rebuild}
use Rattle.td_supply.specs.Supply.{Stock, SupplyView, arrived_at, is_named, meets_read, met_at}
use Rattle.td_supply.specs.Supply.{offered_now, offers_of, stock_of}
use Rattle.td_indices.specs.Archive.{Contents, is_of, source_named}
use Rattle.td_indices.specs.Kept.{KeptBinary}
use Rattle.td_indices.specs.PackageKeys.{same_home}
use Rattle.td_indices.specs.Sources.{KeptSource}
use Rattle.td_indices.specs.Supplying.{build_of, offers_by, own_offer, supply_of}
use Rattle.td_indices.proofs.OfferLaws.{has_again, has_cases, has_first, has_more}
use Rattle.td_plan.specs.BuildsThere.{asks_active, names_itself, names_offer}
use Rattle.td_plan.specs.Due.{arrival_number, is_present}
use Rattle.td_plan.specs.InOrder.{earlier, first_where, is_before}
use Rattle.td_plan.specs.Packages.{arrival_base, is_written, own_package, package_name}
use Rattle.td_plan.specs.Packages.{present_package, rebuilt_text}
use Rattle.td_plan.specs.Plan.{is_beside}
use Rattle.td_plan.specs.Premises.{Premises, arch_at}
use Rattle.td_plan.specs.Reasons.{is_exactly}
use Rattle.td_plan.specs.Relations.{member_of}
use Rattle.td_plan.specs.WaitLaws.{HasArrived, RowsAreReleased, members_of}
use Rattle.td_plan.specs.Waits.{Wait, awaited, is_wait_before, wait_for, wait_if, wait_of}
use Rattle.td_plan.specs.Waits.{wait_with}
use Rattle.td_plan.specs.Waits.{waits_of}
use Rattle.td_plan.proofs.Chosen.{any-again, filter-again, filter-found, in_order-found, map-again}
use Rattle.td_plan.proofs.Chosen.{map-found}
use Rattle.td_plan.proofs.Downward.{awaited-found}
use Rattle.td_plan.proofs.ToldOnce.{place-named}
use Rattle.td_plan.proofs.Named.{named-by}

-- ---- lists

cons-found : {A : Type 0} (o : Option A) (ys : List A) (y : A) → Contains (cons_option o ys) y
    → (o ≡ Some y) ⊎ Contains ys y
cons-found None ys y h = inr h
cons-found {A} (Some z) ys y h = elim (has_cases z ys y h) [
  | inl same ↦ inl (ap (λ (w : A). Some w) same)
  | inr more ↦ inr more
]

filter_map-found : {A B : Type 0} (f : A → Option B) (xs : List A) (y : B)
    → Contains (filter_map f xs) y → (x : A) × Contains xs x × (f x ≡ Some y)
filter_map-found f [] y h = let low = h.1 in absurd (omega arith)
filter_map-found f (x ∷ xs) y h = elim (cons-found (f x) (filter_map f xs) y h) [
  | inl here ↦ (x, has_first x xs, here)
  | inr more ↦
      let r = filter_map-found f xs y more in
      (r.0, has_more x xs r.0 r.1, r.2)
]

map-fixed : {A : Type 0} (f : A → A) (xs : List A) → map f xs ≡ xs → (x : A) → Contains xs x
    → f x ≡ x
map-fixed f [] e x h = let low = h.1 in absurd (omega arith)
map-fixed f (y ∷ ys) e x h =
    let first : f y ≡ y = cc in
    let others : map f ys ≡ ys = cc in
    elim (has_cases y ys x h) [
      | inl same ↦ ap f (sym same) ∙ first ∙ same
      | inr more ↦ map-fixed f ys others x more
    ]

all-passes : {A B : Type 0} (test : B → Bool) (f : A → B) (xs : List A)
    → ((x : A) → Contains xs x → test (f x) ≡ true) → list_all test (map f xs) ≡ true
all-passes test f [] h = refl
all-passes test f (x ∷ xs) h = and_from (test (f x)) (list_all test (map f xs))
    (h x (has_first x xs)) (all-passes test f xs (λ y k. h y (has_more x xs y k)))

-- ---- the first of some

earlier-cases : {A : Type 0} (name : A → List ℕ) (best : Option A) (x : A)
    → (earlier name best x ≡ best) ⊎ (earlier name best x ≡ Some x)
earlier-cases name None x = inr refl
earlier-cases name (Some y) x = elim (cases_Bool (is_before (name x) (name y))) [
  | inl is ↦ inr (rw is refl)
  | inr other ↦ inl (rw other refl)
]

fold-has : {A : Type 0} (name : A → List ℕ) (best : Option A) (xs : List A) (b : A)
    → fold (earlier name) best xs ≡ Some b → (best ≡ Some b) ⊎ Contains xs b
fold-has name best [] b h = inl h
fold-has {A} name best (x ∷ xs) b h = elim (fold-has name (earlier name best x) xs b h) [
  | inr more ↦ inr (has_more x xs b more)
  | inl here ↦ elim (earlier-cases name best x) [
    | inl old ↦ inl (sym old ∙ here)
    | inr new ↦ inr (subst (Contains (x ∷ xs)) (some_is x b (sym new ∙ here)) (has_first x xs))
  ]
]

first-has : {A : Type 0} (name : A → List ℕ) (test : A → Bool) (xs : List A) (b : A)
    → first_where name test xs ≡ Some b → Contains xs b × (test b ≡ true)
first-has name test xs b h = elim (fold-has name None (filter test xs) b h) [
  | inl none ↦ absurd (let bad : None ≡ Some b = none in cc)
  | inr has ↦ filter-found test xs b has
]

or-cases : {A : Type 0} (o q : Option A) (b : A) → option_or o q ≡ Some b
    → (o ≡ Some b) ⊎ (q ≡ Some b)
or-cases None q b h = inr h
or-cases (Some x) q b h = inl h

-- ---- the package that is waited for

pub home-is : (home : Option ℕ) (place : ℕ) → same_home home (Some place) ≡ true
    → home ≡ Some place
home-is None place h = absurd (let bad : false ≡ true = h in cc)
home-is (Some there) place h = ap (λ (k : ℕ). Some k) (eqb-true there place h)

-- a package of t on exactly the architecture, in the version of its arrival
pub record IsWaitedFor (p : Premises) (t : KeptSource) (place : ℕ) (w : Wait) : Type 0 where
  pub binary : KeptBinary
  pub kept : Contains p.archive.binaries binary
  pub own : is_of t.head.name binary ≡ true
  pub there : binary.head.home ≡ Some place
  pub name : w.name ≡ binary.head.name
  pub parts : w.parts ≡ with_rebuild (arrival_base t binary) (arrival_number p t place)

pub written-is : (t : KeptSource) (b : KeptBinary) (base : Parts) (number : ℕ) (older : Bool)
    (w : Wait)
    → wait_for t b base number older ≡ Some w
    → (w.name ≡ b.head.name) × (w.parts ≡ with_rebuild base number)
written-is t b base number older w h =
    let it : Wait = record {
      name = package_name b;
      version = rebuilt_text base number;
      parts = with_rebuild base number;
      on = t.head.name;
      older = older;
    } in
    elim (cases_Bool (is_written base number)) [
      | inl is ↦
          let same : it ≡ w =
          some_is it w (sym (cond-true (is_written base number) (Some it) None is) ∙ h) in
          (sym (ap (λ (v : Wait). v.name) same), sym (ap (λ (v : Wait). v.parts) same))
      | inr other ↦ absurd (let bad : None ≡ Some w =
          sym (cond-false (is_written base number) (Some it) None other) ∙ h in cc)
    ]

module _ (p : Premises) (s t : KeptSource) (place : ℕ) (w : Wait) where
  by_package : (b : KeptBinary) (older : Bool) → Contains p.archive.binaries b
      → is_of t.head.name b ≡ true → is_exactly place b ≡ true
      → wait_if t (arrival_number p t place) older (Some b) ≡ Some w → IsWaitedFor p t place w
  by_package b older kept own exactly h =
      let r = written-is t b (arrival_base t b) (arrival_number p t place) older w h in
      record {
        binary = b;
        kept = kept;
        own = own;
        there = home-is b.head.home place exactly;
        name = r.0;
        parts = r.1;
      }

  by_own : (o : Option KeptBinary) → own_package p.archive s t place ≡ o
      → wait_if t (arrival_number p t place) true o ≡ Some w → IsWaitedFor p t place w
  by_own None e h = absurd (let bad : None ≡ Some w = h in cc)
  by_own (Some b) e h =
      let r = first-has package_name (λ (c : KeptBinary). is_of t.head.name c
      && (is_exactly place c && asks_active p.archive s place (names_itself c)))
      p.archive.binaries b e in
      let both = and_parts _ _ r.1 in
      by_package b true r.0 both.0 (and_parts _ _ both.1).0 h

  -- a present package is one of the archive's
  pub present-has : (b : KeptBinary) → present_package p.archive s t place ≡ Some b
      → Contains p.archive.binaries b × (is_present t place b ≡ true)
  present-has b e =
      elim (or-cases (first_where package_name (λ (c : KeptBinary). is_present t place c
      && asks_active p.archive s place (names_offer c)) p.archive.binaries)
      (first_where package_name (is_present t place) p.archive.binaries) b e) [
        | inl named ↦
            let r = first-has package_name (λ (c : KeptBinary). is_present t place c
            && asks_active p.archive s place (names_offer c)) p.archive.binaries b named in
            (r.0, (and_parts _ _ r.1).0)
        | inr any ↦ first-has package_name (is_present t place) p.archive.binaries b any
      ]

  by_present : (o : Option KeptBinary) → present_package p.archive s t place ≡ o
      → wait_with p s t place o ≡ Some w → IsWaitedFor p t place w
  by_present None e h = by_own (own_package p.archive s t place) refl h
  by_present (Some b) e h =
      let present = present-has b e in
      let both = and_parts _ _ present.1 in
      by_package b false present.0 both.0 (and_parts _ _ both.1).0 h

  pub waited-for : wait_of p s place t ≡ Some w → IsWaitedFor p t place w
  waited-for h = by_present (present_package p.archive s t place) refl h

-- ---- what has arrived

pub there-at : {A : Type 0} (xs : List A) (k : ℕ) → k < length xs
    → (x : A) × (slice_get xs k ≡ Some x)
there-at [] k low = absurd (omega arith)
there-at (x ∷ xs) zero low = (x, refl)
there-at (x ∷ xs) (suc k) low = there-at xs k (omega arith)

module _ (a : Contents) (t : KeptSource) (b : KeptBinary) where
  build-is : source_named a t.head.name ≡ Some t → is_of t.head.name b ≡ true
      → (own_offer a.sources b).build
      ≡ Some (record { source = b.head.source; base = arrival_base t b })
  build-is named own =
      let same = (bytes_eq-Decides t.head.name b.head.source).0 own in
      ap (build_of b.head.source b.head.parts b.head.source_parts)
      (ap (source_named a) (sym same) ∙ named)

  pub built-is : (place : ℕ) (arch : List ℕ) → source_named a t.head.name ≡ Some t
      → is_of t.head.name b ≡ true → b.head.home ≡ Some place → place_of a.table arch ≡ Some place
      → is_built_by a.table t.head.name arch (own_offer a.sources b) ≡ true
  built-is place arch named own home at = and_from _ _
      (ap (λ (o : Option Built). option_map_or (λ (x : Built). bytes_eq t.head.name x.source) o
      false) (build-is named own) ∙ own)
      (ap (λ (o : Option ℕ). option_map_or (λ (k : ℕ). is_place k (place_of a.table arch)) o false)
      home ∙ ap (is_place place) at ∙ eq-eqb place place refl)

  pub rebuild-is : (number : ℕ) → source_named a t.head.name ≡ Some t → is_of t.head.name b ≡ true
      → rebuild_of number (own_offer a.sources b)
      ≡ Some (with_rebuild (arrival_base t b) number)
  rebuild-is number named own = ap (λ (o : Option Built).
      option_map (λ (x : Built). with_rebuild x.base number) o) (build-is named own)

-- an item of the supply that has arrived, and meets a wait
record IsArrived (v : SupplyView) (place : ℕ) (w : Wait) : Type 0 where
  pub item : Item
  pub has : Contains v.items item
  pub name : w.name ≡ item.offer.name
  pub there : item.offer.arch ≡ Some place
  pub rebuilt : item.rebuilt ≡ Some w.parts

arrived-is : (p : Premises) (t : KeptSource) (place : ℕ) (v : SupplyView) (w : Wait)
    → IsApart p.archive.table → place < length p.archive.table
    → source_named p.archive t.head.name ≡ Some t → stock_of v ≡ supply_of p.archive
    → HasArrived p v t place (arrival_number p t place) → IsWaitedFor p t place w
    → IsArrived v place w
arrived-is p t place v w apart low named stock has h =
    let a = p.archive in let b = h.binary in
    let arch = arch_at a.table place in
    let n = arrival_number p t place in
    let own = own_offer a.sources b in
    let offered : Contains (supply_of a).offers own =
    has_again (offers_by a.sources) a.binaries b own h.kept (has_first own _) in
    let items : map (λ (i : Item). i.offer) v.items ≡ (supply_of a).offers =
    ap (λ (x : Stock). x.offers) stock in
    let table : v.table ≡ a.table = ap (λ (x : Stock). x.table) stock in
    let i = map-found (λ (i : Item). i.offer) v.items own
    (subst (λ (l : List Supplied). Contains l own) (sym items) offered) in
    let fixed : arrived_at v.table t.head.name arch n i.0 ≡ i.0 =
    map-fixed (arrived_at v.table t.head.name arch n) v.items
    (ap (λ (x : SupplyView). x.items) has) i.0 i.1 in
    let built : is_built_by v.table t.head.name arch i.0.offer ≡ true =
    ap (λ (l : List ArchWords). is_built_by l t.head.name arch i.0.offer) table
    ∙ ap (is_built_by a.table t.head.name arch) i.2
    ∙ built-is a t b place arch named h.own h.there (place-named a.table place apart low) in
    let becomes : arrived_at v.table t.head.name arch n i.0
    ≡ record i.0 { rebuilt = rebuild_of n i.0.offer } =
    cond-true (is_built_by v.table t.head.name arch i.0.offer)
    (record i.0 { rebuilt = rebuild_of n i.0.offer }) i.0 built in
    record {
      item = i.0;
      has = i.1;
      name = h.name ∙ sym (ap (λ (o : Supplied). o.name) i.2);
      there = ap (λ (o : Supplied). o.arch) i.2 ∙ h.there;
      rebuilt = sym (ap (λ (j : Item). j.rebuilt) fixed) ∙ ap (λ (j : Item). j.rebuilt) becomes
          ∙ ap (rebuild_of n) i.2 ∙ rebuild-is a t b n named h.own
          ∙ ap (λ (x : Parts). Some x) (sym h.parts);
    }

-- ---- a member that is met

wait-met : (v : SupplyView) (place : ℕ) (a : ArchWords) (w : Wait) → IsArrived v place w
    → member_met (offers_of v.items) place a (map alternative_asked (member_of w)) ≡ true
wait-met v place a w h =
    let i = h.item in
    let bound : Bound = record { operator = LaterOrEqual; version = w.parts } in
    let version : option_or i.rebuilt i.offer.version ≡ Some w.parts =
    ap (λ (o : Option Parts). option_or o i.offer.version) h.rebuilt in
    let late : satisfies (Some bound) (option_or i.rebuilt i.offer.version) ≡ true =
    ap (satisfies (Some bound)) version ∙ ap is_ge (tied_itself version_total w.parts) in
    let on : is_on place i.offer.arch ≡ true = ap (is_on place) h.there ∙ eq-eqb place place refl in
    let offered : Contains (offers_of v.items w.name) (offered_now i) =
    map-again offered_now (filter (is_named w.name) v.items) i
    (filter-again (is_named w.name) v.items i h.has
    ((bytes_eq-Decides w.name i.offer.name).1 h.name)) in
    let members = map alternative_asked (member_of w) in
    or_right (not (list_any (λ (x : Asked). active a x) members))
    (list_any (λ (x : Asked). active a x && alternative_met (offers_of v.items) place x) members)
    (or_left (list_any (suits place (Some bound)) (offers_of v.items w.name)) false
    (any-again (suits place (Some bound)) (offers_of v.items w.name) (offered_now i) offered
    (and_from _ _ on late)))

-- ---- the whole

pub rows_are_released : RowsAreReleased
rows_are_released p x s place v planned stock has read =
    let a = p.archive in
    let waits = waits_of (is_beside x s) p s place in
    let sound = planned.sound in
    let table : v.table ≡ a.table = ap (λ (u : Stock). u.table) stock in
    let own = place-named a.table place sound.apart planned.there in
    let at : place_of v.table (arch_at a.table place) ≡ Some place =
    ap (λ (l : List ArchWords). place_of l (arch_at a.table place)) table ∙ own in
    let arch = there-at a.table place planned.there in
    let here : slice_get v.table place ≡ Some arch.0 =
    ap (λ (l : List ArchWords). slice_get l place) table ∙ arch.1 in
    let each : (w : Wait) → Contains waits w
    → member_met (offers_of v.items) place arch.0 (map alternative_asked (member_of w)) ≡ true =
    λ w in_waits.
    let found = filter_map-found (wait_of p s place) (awaited (is_beside x s) p s place) w
    (in_order-found is_wait_before _ w in_waits) in
    let t = found.0 in
    let kept = awaited-found x p s place t found.1 in
    wait-met v place arch.0 w (arrived-is p t place v w sound.apart planned.there
    (named-by p sound t kept.kept) stock (has t found.1) (waited-for p s t place w found.2)) in
    ap (meets_read v (arch_at a.table place)) read
    ∙ ap (met_at v (members_of waits)) at
    ∙ ap (λ (o : Option ArchWords). option_map_or (λ (c : ArchWords).
    met (offers_of v.items) place c (members_of waits)) o false) here
    ∙ all-passes (member_met (offers_of v.items) place arch.0)
    (λ (w : Wait). map alternative_asked (member_of w)) waits each
