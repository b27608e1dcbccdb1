-- The architectures that a plan's lines name are those of its table that pass some test.
use Rattle.std.proofs.Common.{◌≡◌, ◌+◌, ℕ, suc, Bool, true, false, cond, ◌&&◌, ◌||◌}
use Rattle.std.proofs.Common.{List}
use Rattle.std.proofs.Common.{[], ◌∷◌, ◌++◌, Option, Some, length, map, refl, sym, ap}
use Rattle.std.proofs.Common.{◌∙◌}
use Rattle.std.proofs.Common.{arith, slice_get}
use Rattle.std.specs.Prelude.{filter}
use Rattle.std.specs.List.{list_any, range_with_len}
use Rattle.std.specs.Option.{option_map_or}
use Rattle.std.proofs.lemmas.List.Elements.{filter-append}
use Rattle.td_relation.specs.Arch.{ArchWords}
use Rattle.td_relation.specs.Table.{IsApart, place_of}
use Rattle.td_indices.proofs.OwnPlaces.{place_own}
use Rattle.td_plan.specs.Plan.{WaitingAt}
use Rattle.td_plan.specs.Premises.{arch_at}
use Rattle.td_plan.specs.ReadingLaws.{AreOfTable}

-- ---- 1. by places

-- the architecture with a name is at a place that passes
abbrev at_place : List ArchWords → (ℕ → Bool) → List ℕ → Bool
at_place table passes name = option_map_or passes (place_of table name) false

of_places : (table rest : List ArchWords) (passes : ℕ → Bool) (n : ℕ) → IsApart table
    → ((k : ℕ) → slice_get table (n + k) ≡ slice_get rest k)
    → filter (at_place table passes) (map (λ (a : ArchWords). a.name) rest)
    ≡ map (arch_at table) (filter passes (range_with_len n (length rest)))
of_places table [] passes n apart at = refl
of_places table (a ∷ rest) passes n apart at =
    ap (λ (b : Bool). cond b (a.name ∷ front) front) test
    ∙ by (passes n) (of_places table rest passes (n + 1) apart
    (λ k. ap (slice_get table) (let e : n + 1 + k ≡ n + suc k = omega arith in e)
    ∙ at (suc k)))
  where
    front : List (List ℕ)
    front = filter (at_place table passes) (map (λ (b : ArchWords). b.name) rest)

    back : List ℕ
    back = filter passes (range_with_len (n + 1) (length rest))

    here : slice_get table n ≡ Some a
    here = ap (slice_get table) (let e : n ≡ n + 0 = omega arith in e) ∙ at 0

    test : at_place table passes a.name ≡ passes n
    test = ap (λ (o : Option ℕ). option_map_or passes o false) (place_own table n a apart here)

    name : a.name ≡ arch_at table n
    name = sym (ap (λ (o : Option ArchWords). option_map_or (λ (b : ArchWords). b.name) o []) here)

    by : (b : Bool) → front ≡ map (arch_at table) back
        → cond b (a.name ∷ front) front ≡ map (arch_at table) (cond b (n ∷ back) back)
    by true later = ap (λ (t : List ℕ). t ∷ front) name
        ∙ ap (λ (l : List (List ℕ)). arch_at table n ∷ l) later
    by false later = later

pub archs_of_table : (table : List ArchWords) (passes : ℕ → Bool) → IsApart table
    → AreOfTable table
    (map (arch_at table) (filter passes (range_with_len 0 (length table))))
archs_of_table table passes apart = (
  at_place table passes,
  sym (of_places table table passes 0 apart
      (λ k. ap (slice_get table) (let e : 0 + k ≡ k = omega arith in e))),
)

-- ---- 2. by what waits there

-- the places of what is kept of things at places are those places that pass all tests
pub kept_places : (g : ℕ → WaitingAt) (same : (i : ℕ) → (g i).place ≡ i) (due : ℕ → Bool)
    (r q : WaitingAt → Bool) (xs : List ℕ)
    → map (λ (w : WaitingAt). w.place) (filter q (filter r (map g (filter due xs))))
    ≡ filter (λ i. due i && (r (g i) && q (g i))) xs
kept_places g same due r q [] = refl
kept_places g same due r q (i ∷ xs) = first (due i) (kept_places g same due r q xs)
  where
    kept : List ℕ
    kept = filter (λ j. due j && (r (g j) && q (g j))) xs

    IsLater : Type 0
    IsLater = map (λ (w : WaitingAt). w.place) (filter q (filter r (map g (filter due xs)))) ≡ kept

    third : (c : Bool) → IsLater → map (λ (w : WaitingAt). w.place)
        (cond c (g i ∷ filter q (filter r (map g (filter due xs))))
        (filter q (filter r (map g (filter due xs)))))
        ≡ cond c (i ∷ kept) kept
    third true later = ap (λ (n : ℕ). n ∷ map (λ (w : WaitingAt). w.place)
        (filter q (filter r (map g (filter due xs))))) (same i)
        ∙ ap (λ (l : List ℕ). i ∷ l) later
    third false later = later

    second : (b : Bool) → IsLater → map (λ (w : WaitingAt). w.place)
        (filter q (cond b (g i ∷ filter r (map g (filter due xs)))
        (filter r (map g (filter due xs)))))
        ≡ cond (b && q (g i)) (i ∷ kept) kept
    second true later = third (q (g i)) later
    second false later = later

    first : (a : Bool) → IsLater → map (λ (w : WaitingAt). w.place)
        (filter q (filter r (map g (cond a (i ∷ filter due xs) (filter due xs)))))
        ≡ cond (a && (r (g i) && q (g i))) (i ∷ kept) kept
    first true later = second (r (g i)) later
    first false later = later

-- nothing is kept of what doesn't pass
pub none_kept : {X : Type 0} (q : X → Bool) (xs : List X) → list_any q xs ≡ false
    → filter q xs ≡ []
none_kept q [] h = refl
none_kept q (x ∷ xs) h = by (q x) h (λ (g : list_any q xs ≡ false). none_kept q xs g)
  where
    by : (b : Bool) → (b || list_any q xs) ≡ false → (list_any q xs ≡ false → filter q xs ≡ [])
        → cond b (x ∷ filter q xs) (filter q xs) ≡ []
    by true g later = absurd cc
    by false g later = later g

-- what is kept of the rest is what is kept of all, if nothing before passes
pub kept_of_rest : {X : Type 0} (q : X → Bool) (all before rest : List X) → all ≡ before ++ rest
    → list_any q before ≡ false → filter q rest ≡ filter q all
kept_of_rest {X} q all before rest is none =
    sym (ap (filter q) is ∙ filter-append q before rest
    ∙ ap (λ (l : List X). l ++ filter q rest) (none_kept q before none))
