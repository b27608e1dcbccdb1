-- The numbers of the items of a list that pass a test, with one item more.
use Rattle.std.proofs.Common.{◌≡◌, ℕ, ◌+◌, ◌<◌, ◌==◌, ◌++◌, ◌∷◌, ◌∙◌, [], Bool, true, false}
use Rattle.std.proofs.Common.{List, Option, Some, get_or, if◌then◌else◌, length, map, set}
use Rattle.std.proofs.Common.{slice_get}
use Rattle.std.proofs.Common.{take}
use Rattle.std.proofs.Common.{refl, sym, ap, inl, inr, arith, get_or-set_other}
use Rattle.std.specs.Global.{Vec}
use Rattle.std.specs.Option.{option_map_or}
use Rattle.std.proofs.lemmas.Bool.Decides.{eqb_tells}
use Rattle.std.proofs.lemmas.Grind.{get_or-set_at}
use Rattle.std.proofs.lemmas.List.{get_or-map, length-map, length-take-le, map-append, map-set}
use Rattle.std.proofs.lemmas.Option.{slice_get_cases, slice_get_within}
use Rattle.td_rows.proofs.Lists.{take-next}
use Rattle.td_supply.proofs.Places.{places-push}
use Rattle.td_indices.specs.Archive.{places_from}
use Rattle.td_waves.specs.Graph.{bases_of, lists}

-- the numbers of the items that pass, with the next item, which passes or not
pub places-next : {A : Type 0} (test : A → Bool) (xs : List A) (n : ℕ) (x : A)
    → slice_get xs n ≡ Some x → places_from test 0 (take (n + 1) xs)
    ≡ (if test x then places_from test 0 (take n xs) ++ n ∷ [] else places_from test 0 (take n xs))
places-next test xs n x at =
    let P : List ℕ = places_from test 0 (take n xs) in
    let within : n < length xs = slice_get_within xs n x at in
    let long : 0 + length (take n xs) ≡ n =
    omega (arith, length-take-le n xs (omega (arith, within))) in
    ap (places_from test 0) (take-next xs n x at)
    ∙ places-push test 0 (take n xs) x
    ∙ ap (λ (m : ℕ). if test x then P ++ m ∷ [] else P) long

map-if : {B : Type 0} (f : ℕ → B) (b : Bool) (ns : List ℕ) (n : ℕ)
    → map f (if b then ns ++ n ∷ [] else ns) ≡ (if b then map f ns ++ f n ∷ [] else map f ns)
map-if f true ns n = map-append f ns (n ∷ [])
map-if f false ns n = refl

-- what is made of the numbers of the items that pass, with the next item
pub mapped-next : {A B : Type 0} (f : ℕ → B) (test : A → Bool) (xs : List A) (n : ℕ)
    (old new : List B) → n < length xs → old ≡ map f (places_from test 0 (take n xs))
    → new ≡ (if option_map_or test (slice_get xs n) false then old ++ f n ∷ [] else old)
    → new ≡ map f (places_from test 0 (take (n + 1) xs))
mapped-next {A} {B} f test xs n old new low was more =
    let P : List ℕ = places_from test 0 (take n xs) in
    elim (slice_get_cases xs n).1 [
      | inl there ↦
          let x : A = there.0 in
          more
          ∙ ap (λ (o : Option A). if option_map_or test o false then old ++ f n ∷ [] else old)
          there.2
          ∙ ap (λ (l : List B). if test x then l ++ f n ∷ [] else l) was
          ∙ sym (map-if f (test x) P n)
          ∙ ap (map f) (sym (places-next test xs n x there.2))
      | inr past ↦ absurd (omega (arith, past.0, low))
    ]

-- ---- a number more in one of some lists

entered : (us : List (List ℕ)) (b n : ℕ) (new : List ℕ) → b < length us
    → new ≡ get_or us b [] ++ n ∷ [] → (k : ℕ) → get_or (set us b new) k []
    ≡ (if b == k then get_or us k [] ++ n ∷ [] else get_or us k [])
entered us b n new h e k = elim (eqb_tells b k) [
  | inl p ↦
      let at : get_or (set us b new) k [] ≡ new = get_or-set_at us b k new [] (sym p.1) h in
      rw p.0 (at ∙ e ∙ ap (λ (j : ℕ). get_or us j [] ++ n ∷ []) p.1)
  | inr p ↦ rw p.0 (get_or-set_other us b k new [] (λ q. p.1 (sym q)))
]

pub lists-pushed : (vs : List (Vec ℕ)) (b n : ℕ) (old new : Vec ℕ) → b < length vs
    → old ≡ get_or vs b old → new.items ≡ old.items ++ n ∷ [] → (k : ℕ)
    → bases_of (lists (set vs b new)) k
    ≡ (if b == k then bases_of (lists vs) k ++ n ∷ [] else bases_of (lists vs) k)
lists-pushed vs b n old new h is e k =
    let items = λ (v : Vec ℕ). v.items in
    let was : get_or (lists vs) b [] ≡ old.items =
    get_or-map items vs b old [] h ∙ ap items (sym is) in
    let becomes : new.items ≡ get_or (lists vs) b [] ++ n ∷ [] =
    e ∙ ap (λ (l : List ℕ). l ++ n ∷ []) (sym was) in
    ap (λ (us : List (List ℕ)). get_or us k []) (map-set items vs b new)
    ∙ entered (lists vs) b n new.items (rw length-map h) becomes k

-- a number more among those of equal firsts
pub member-more : (firsts : List ℕ) (n first k : ℕ) (old new : List ℕ)
    → slice_get firsts n ≡ Some first → new ≡ (if first == k then old ++ n ∷ [] else old)
    → old ≡ places_from (λ (f : ℕ). f == k) 0 (take n firsts)
    → new ≡ places_from (λ (f : ℕ). f == k) 0 (take (n + 1) firsts)
member-more firsts n first k old new at more was =
    more
    ∙ ap (λ (l : List ℕ). if first == k then l ++ n ∷ [] else l) was
    ∙ sym (places-next (λ (f : ℕ). f == k) firsts n first at)
