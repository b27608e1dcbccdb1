-- The items after an arrival.
use Rattle.std.proofs.Common.{◌≡◌, ℕ, zero, suc, ◌+◌, ◌&&◌, Bool, true, false, List, [], ◌∷◌, ◌++◌}
use Rattle.std.proofs.Common.{Option, Some, None, if◌then◌else◌, ◌≤◌, length, map, option_map, drop}
use Rattle.std.proofs.Common.{slice_set, get_or, ◌<◌, refl, sym, ap, ◌∙◌, inl, inr, append_assoc}
use Rattle.std.proofs.Common.{add-one, arith}
use Rattle.std.specs.Option.{option_map_or}
use Rattle.std.specs.Str.{bytes_eq}
use Rattle.std.proofs.lemmas.Bool.{cases_Bool}
use Rattle.std.proofs.lemmas.List.{length_push}
use Rattle.td_version.specs.Version.{Parts}
use Rattle.td_relation.specs.Arch.{ArchWords}
use Rattle.td_relation.specs.Table.{place_of}
use Rattle.td_supply.specs.declared.stocked.Rebuilt.{Rebuilt}
use Rattle.td_supply.specs.declared.stocked.Stocked.{Stocked}
use Rattle.td_supply.specs.Arrivals.{is_exactly, rebuild_there, with_made, made_at, made_of, put}
use Rattle.td_supply.specs.Arrivals.{put_all}
use Rattle.td_supply.specs.Places.{is_place, places_from}
use Rattle.td_supply.specs.Supplied.{Built, Supplied, Item, is_of, is_built_by, rebuild_of}
use Rattle.td_supply.specs.Supplied.{with_rebuild}
use Rattle.td_supply.specs.Supply.{arrived_at}
use Rattle.td_supply.specs.SupplyViews.{item, rebuilt_parts}
use Rattle.td_supply.proofs.Places.{front_of, places-map, places-same}

-- ---- 1. one version put in place

-- what is written in the list of offers
pub put-set : (xs : List Stocked) (at : ℕ) (x : Stocked) (r : Rebuilt) → at < length xs
    → x ≡ get_or xs at x → map item
    (slice_set xs at (record {
      name = x.name;
      version = x.version;
      arch = x.arch;
      build = x.build;
      rebuilt = Some r;
    })) ≡ put at (rebuilt_parts r) (map item xs)
put-set [] at x r within there = absurd (omega arith)
put-set (y ∷ xs) zero x r within there =
    ap (λ (z : Stocked).
    record { offer = (item z).offer; rebuilt = Some (rebuilt_parts r) } ∷ map item xs) there
put-set (y ∷ xs) (suc at) x r within there =
    ap (λ (l : List Item). item y ∷ l) (put-set xs at x r (omega arith) there)

-- there is none with a number past the end
pub put-past : (items : List Item) (at : ℕ) (version : Parts) → length items ≤ at
    → put at version items ≡ items
put-past [] at version past = refl
put-past (i ∷ items) zero version past = absurd (omega arith)
put-past (i ∷ items) (suc at) version past =
    ap (λ (l : List Item). i ∷ l) (put-past items at version (omega arith))

-- behind those in front
put-front : (front : List Item) (x : Item) (rest : List Item) (version : Parts)
    → put (length front) version (front ++ x ∷ rest)
    ≡ front ++ record x { rebuilt = Some version } ∷ rest
put-front [] x rest version = refl
put-front (y ∷ front) x rest version =
    ap (λ (l : List Item). y ∷ l) (put-front front x rest version)

-- one more at the end is put first
pub put_all-push : (made : List (ℕ × Parts)) (p : ℕ × Parts) (items : List Item)
    → put_all (made ++ p ∷ []) items ≡ put_all made (put p.0 p.1 items)
put_all-push [] p items = refl
put_all-push (q ∷ made) p items = ap (put q.0 q.1) (put_all-push made p items)

-- ---- 2. what is made of all items, put in place

-- what is made of each item, with the items' numbers from n on
abbrev pub made_from : {A B : Type 0} → (A → Option B) → ℕ → List A → List (ℕ × B)
made_from make n [] = []
made_from make n (x ∷ xs) = with_made n (make x) (made_from make (n + 1) xs)

abbrev pub only_where : {A B : Type 0} → (A → Bool) → (A → Option B) → A → Option B
only_where test make x = if test x then make x else None

-- what is made of the items that pass a test, found by their numbers
pub made_of-places : {A B : Type 0} (make : A → Option B) (test : A → Bool) (items xs : List A)
    (n : ℕ) → drop n items ≡ xs
    → made_of make items (places_from test n xs) ≡ made_from (only_where test make) n xs
made_of-places make test items [] n left = refl
made_of-places {A} {B} make test items (x ∷ xs) n left =
    let f = front_of items n x xs left in
    let later = made_of-places make test items xs (n + 1) (rw add-one f.1) in
    elim (cases_Bool (test x)) [
      | inl passes ↦
          let made : made_at make items n ≡ make x = ap (λ o. option_map_or make o None) f.0 in
          rw passes (ap (λ (o : Option B).
          with_made n o (made_of make items (places_from test (n + 1) xs))) made
          ∙ ap (with_made n (make x)) later)
      | inr fails ↦ rw fails later
    ]

pub made_from-map : {A B C : Type 0} (make : B → Option C) (f : A → B) (n : ℕ) (xs : List A)
    → made_from (λ x. make (f x)) n xs ≡ made_from make n (map f xs)
made_from-map make f n [] = refl
made_from-map make f n (x ∷ xs) = ap (with_made n (make (f x))) (made_from-map make f (n + 1) xs)

-- an item with the version that is made of it, if one is
abbrev pub with_rebuilt : Item → Option Parts → Item
with_rebuilt i None = i
with_rebuilt i (Some version) = record i { rebuilt = Some version }

-- with one item more
put_next : (make : Item → Option Parts) (front : List Item) (x : Item) (xs : List Item) (n : ℕ)
    → n ≡ length front → (made : Option Parts)
    → put_all (made_from make (n + 1) xs) (front ++ x ∷ xs)
    ≡ front ++ x ∷ map (λ y. with_rebuilt y (make y)) xs
    → put_all (with_made n made (made_from make (n + 1) xs)) (front ++ x ∷ xs)
    ≡ front ++ with_rebuilt x made ∷ map (λ y. with_rebuilt y (make y)) xs
put_next make front x xs n is None later = later
put_next make front x xs n is (Some version) later =
    let rest = map (λ (y : Item). with_rebuilt y (make y)) xs in
    ap (put n version) later ∙ ap (λ (m : ℕ). put m version (front ++ x ∷ rest)) is
    ∙ put-front front x rest version

put_made : (make : Item → Option Parts) (front xs : List Item) (n : ℕ) → n ≡ length front
    → put_all (made_from make n xs) (front ++ xs) ≡ front ++ map (λ x. with_rebuilt x (make x)) xs
put_made make front [] n is = refl
put_made make front (x ∷ xs) n is =
    let more : n + 1 ≡ length (front ++ x ∷ []) = omega (arith, length_push front x) in
    let later : put_all (made_from make (n + 1) xs) (front ++ x ∷ xs)
    ≡ front ++ x ∷ map (λ y. with_rebuilt y (make y)) xs =
    ap (put_all (made_from make (n + 1) xs)) (sym (append_assoc front (x ∷ []) xs))
    ∙ put_made make (front ++ x ∷ []) xs (n + 1) more
    ∙ append_assoc front (x ∷ []) (map (λ y. with_rebuilt y (make y)) xs) in
    put_next make front x xs n is (make x) later

-- ---- 3. an arrival

-- on an architecture of the table
one_arrives : (i : Item) (build : Option Built) (source : List ℕ) (there : Bool) (n : ℕ) →
    with_rebuilt i (if option_map_or (λ (b : Built). bytes_eq source b.source) build false
    then (if there then option_map (λ (b : Built). with_rebuild b.base n) build else None)
    else None)
    ≡ (if option_map_or (λ (b : Built). bytes_eq source b.source) build false && there
    then record i { rebuilt = option_map (λ (b : Built). with_rebuild b.base n) build } else i)
one_arrives i None source there n = refl
one_arrives i (Some b) source true n =
    elim (cases_Bool (bytes_eq source b.source)) [ inl is ↦ rw is refl | inr other ↦ rw other refl ]
one_arrives i (Some b) source false n =
    elim (cases_Bool (bytes_eq source b.source)) [ inl is ↦ rw is refl | inr other ↦ rw other refl ]

arrives_at : (table : List ArchWords) (source arch : List ℕ) (n place : ℕ)
    → place_of table arch ≡ Some place → (i : Item) → with_rebuilt i (if is_of source i.offer
    then rebuild_there place n i.offer else None) ≡ arrived_at table source arch n i
arrives_at table source arch n place found i =
    one_arrives i i.offer.build source (is_exactly place i.offer.arch) n
    ∙ ap (λ (p : Option ℕ).
    if is_of source i.offer && option_map_or (λ there. is_place there p) i.offer.arch false
    then record i { rebuilt = rebuild_of n i.offer } else i) (sym found)

map-same : {A B : Type 0} (f g : A → B) → ((x : A) → f x ≡ g x) → (xs : List A)
    → map f xs ≡ map g xs
map-same f g same [] = refl
map-same {A} {B} f g same (x ∷ xs) = let head = same x in let tail = map-same f g same xs in cc

-- what is made of the source's items, put in place, is the arrival
pub put-arrived : (table : List ArchWords) (source arch : List ℕ) (n place : ℕ)
    → place_of table arch ≡ Some place → (xs : List Stocked) →
    put_all (made_of (λ (s : Stocked). rebuild_there place n (item s).offer) xs
    (places_from (λ (s : Stocked). is_of source (item s).offer) 0 xs)) (map item xs)
    ≡ map (arrived_at table source arch n) (map item xs)
put-arrived table source arch n place found xs =
    let make = λ (i : Item). if is_of source i.offer then rebuild_there place n i.offer else None in
    ap (λ (l : List (ℕ × Parts)). put_all l (map item xs))
    (made_of-places (λ (s : Stocked). rebuild_there place n (item s).offer)
    (λ (s : Stocked). is_of source (item s).offer) xs xs 0 refl ∙ made_from-map make item 0 xs)
    ∙ put_made make [] (map item xs) 0 refl
    ∙ map-same (λ (i : Item). with_rebuilt i (make i)) (arrived_at table source arch n)
    (arrives_at table source arch n place found) (map item xs)

-- on no architecture of the table
none_arrives : (b : Bool) (home : Option ℕ) (i other : Item)
    → (if b && option_map_or (λ there. is_place there None) home false then other else i) ≡ i
none_arrives true None i other = refl
none_arrives true (Some place) i other = refl
none_arrives false home i other = refl

pub arrived-nowhere : (table : List ArchWords) (source arch : List ℕ) (n : ℕ) → place_of table arch
    ≡ None → (items : List Item) → map (arrived_at table source arch n) items ≡ items
arrived-nowhere table source arch n none [] = refl
arrived-nowhere table source arch n none (i ∷ items) =
    let other : Item = record i { rebuilt = rebuild_of n i.offer } in
    let head : arrived_at table source arch n i ≡ i =
    ap (λ (p : Option ℕ). if is_of source i.offer
    && option_map_or (λ there. is_place there p) i.offer.arch false then other else i) none
    ∙ none_arrives (is_of source i.offer) i.offer.arch i other in
    let tail = arrived-nowhere table source arch n none items in
    cc

-- the index's offers stay
pub arrived-offer : (table : List ArchWords) (source arch : List ℕ) (n : ℕ) (i : Item)
    → (arrived_at table source arch n i).offer ≡ i.offer
arrived-offer table source arch n i =
    elim (cases_Bool (is_built_by table source arch i.offer)) [
      | inl is ↦ rw is refl
      | inr other ↦ rw other refl
    ]

-- so an arrival keeps the numbers of the items that pass a test of them
pub arrival-places : (test : Supplied → Bool) (table : List ArchWords) (source arch : List ℕ)
    (n : ℕ) (xs ys : List Stocked)
    → map item ys ≡ map (arrived_at table source arch n) (map item xs)
    → places_from (λ (s : Stocked). test (item s).offer) 0 xs
    ≡ places_from (λ (s : Stocked). test (item s).offer) 0 ys
arrival-places test table source arch n xs ys after =
    let f = arrived_at table source arch n in
    let passes = λ (i : Item). test i.offer in
    let same : (i : Item) → passes (f i) ≡ passes i =
    λ i. ap test (arrived-offer table source arch n i) in
    sym (places-map passes item 0 xs)
    ∙ sym (places-same (λ i. passes (f i)) passes 0 (map item xs) same)
    ∙ sym (places-map passes f 0 (map item xs))
    ∙ ap (places_from passes 0) (sym after)
    ∙ places-map passes item 0 ys
