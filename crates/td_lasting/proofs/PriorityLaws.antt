-- Rows that are ordered by priority, and of one priority by key, are all there and in that order.
use Rattle.std.proofs.Common.{◌≡◌, ℕ, zero, suc, ◌+◌, Bool, true, false, [], ◌∷◌, refl, sym}
use Rattle.std.proofs.Common.{ap}
use Rattle.std.proofs.Common.{subst, ◌∙◌, arith, if◌then◌else◌}
use Rattle.std.specs.Prelude.{slice_index_or}
use Rattle.std.specs.List.Sorted.{IsPermutation, IsSortedBy}
use Rattle.std.specs.Ordering.{int_cmp, is_lt, ordering_reverse, ordering_then}
use Rattle.std.specs.declared.cmp.Ordering.{Ordering}
use Rattle.std.specs.declared.cmp.Ordering.TheVariants.{Less, Equal, Greater}
use Rattle.std.proofs.lemmas.Bool.{and_parts}
use Rattle.std.proofs.lemmas.Cmp.{int_cmp_total}
use Rattle.std.proofs.lemmas.List.Sorted.{IsPermutation-cons, IsPermutation-middle}
use Rattle.std.proofs.lemmas.List.Sorted.{IsPermutation-refl, IsPermutation-trans}
use Rattle.td_rows.specs.declared.key.Key.{Key}
use Rattle.td_rows.specs.declared.row.Row.{Row}
use Rattle.td_rows.specs.Keys.{ascending, below_all, key_cmp}
use Rattle.td_rows.specs.Table.{Table, keys_of}
use Rattle.td_rows.proofs.Keys.{key_total}
use Rattle.td_lasting.specs.Ready.{PrioritiesDecide, by_priority, is_first, placed}

-- ---- 1. all of them are there

moved : (p : Key × Row) (t : Table) → IsPermutation (p ∷ t) (placed p t)
moved p [] = IsPermutation-refl (p ∷ [])
moved p (q ∷ t) =
    elim (is_lt (int_cmp p.1.priority q.1.priority)) as (λ (b : Bool).
    IsPermutation (p ∷ (q ∷ t)) (if b then q ∷ placed p t else p ∷ (q ∷ t))) [
      | true ↦
          IsPermutation-trans (p ∷ (q ∷ t)) (q ∷ (p ∷ t)) (q ∷ placed p t)
          (IsPermutation-middle (p ∷ []) q t)
          (IsPermutation-cons q (p ∷ t) (placed p t) (moved p t))
      | false ↦ IsPermutation-refl (p ∷ (q ∷ t))
    ]

all_there : (t : Table) → IsPermutation t (by_priority t)
all_there [] = IsPermutation-refl []
all_there (p ∷ t) =
    IsPermutation-trans (p ∷ t) (p ∷ by_priority t) (placed p (by_priority t))
    (IsPermutation-cons p t (by_priority t) (all_there t)) (moved p (by_priority t))

-- ---- 2. which of two rows isn't first

pub then_not : (o r : Ordering) → is_lt o ≡ false → is_lt r ≡ false
    → is_lt (ordering_then o r) ≡ false
then_not Less r lt rest = absurd cc
then_not Equal r lt rest = rest
then_not Greater r lt rest = refl

back_not : (o : Ordering) → is_lt o ≡ true → is_lt (ordering_reverse o) ≡ false
back_not Less h = refl
back_not Equal h = absurd cc
back_not Greater h = absurd cc

pub ahead_not : (o back r : Ordering) → back ≡ ordering_reverse o → is_lt o ≡ true
    → is_lt (ordering_then back r) ≡ false
ahead_not Less back r is h = ap (λ (x : Ordering). is_lt (ordering_then x r)) is
ahead_not Equal back r is h = absurd cc
ahead_not Greater back r is h = absurd cc

-- the one with the greater key, where its priority isn't greater
not_first : (p q : Key × Row) → is_lt (int_cmp p.1.priority q.1.priority) ≡ false
    → is_lt (key_cmp p.0 q.0) ≡ true → is_first q p ≡ false
not_first p q priority key =
    then_not (int_cmp p.1.priority q.1.priority) (key_cmp q.0 p.0) priority
    (ap is_lt (key_total.antisymm q.0 p.0) ∙ back_not (key_cmp p.0 q.0) key)

-- the one whose priority is less
not_ahead : (p q : Key × Row) → is_lt (int_cmp p.1.priority q.1.priority) ≡ true
    → is_first p q ≡ false
not_ahead p q less =
    ahead_not (int_cmp p.1.priority q.1.priority) (int_cmp q.1.priority p.1.priority)
    (key_cmp p.0 q.0) (int_cmp_total.antisymm q.1.priority p.1.priority) less

-- ---- 3. they are in order

-- the key is below that of each row
abbrev AreAbove : Key → Table → Type 0
AreAbove k [] = Unit {0}
AreAbove k (q ∷ t) = (is_lt (key_cmp k q.0) ≡ true) × AreAbove k t

above : (k : Key) (t : Table) → below_all k (keys_of t) ≡ true → AreAbove k t
above k [] h = tt
above k (q ∷ t) h =
    let parts = and_parts (is_lt (key_cmp k q.0)) (below_all k (keys_of t)) h in
    (parts.0, above k t parts.1)

above-placed : (k : Key) (p : Key × Row) (t : Table) → is_lt (key_cmp k p.0) ≡ true
    → AreAbove k t → AreAbove k (placed p t)
above-placed k p [] one all = (one, tt)
above-placed k p (q ∷ t) one all =
    elim (is_lt (int_cmp p.1.priority q.1.priority)) as (λ (b : Bool).
    AreAbove k (if b then q ∷ placed p t else p ∷ (q ∷ t))) [
      | true ↦ (all.0, above-placed k p t one all.1)
      | false ↦ (one, all)
    ]

above-all : (k : Key) (t : Table) → AreAbove k t → AreAbove k (by_priority t)
above-all k [] all = tt
above-all k (p ∷ t) all = above-placed k p (by_priority t) all.0 (above-all k t all.1)

-- of two neighbours the later isn't first
abbrev AreInOrder : Table → Type 0
AreInOrder [] = Unit {0}
AreInOrder (p ∷ []) = Unit {0}
AreInOrder (p ∷ (q ∷ t)) = (is_first q p ≡ false) × AreInOrder (q ∷ t)

behind : (q p : Key × Row) (t : Table) → is_first p q ≡ false → AreInOrder (q ∷ t)
    → AreInOrder (placed p t) → AreInOrder (q ∷ placed p t)
behind q p [] later order rest = (later, tt)
behind q p (r ∷ t) later order rest =
    elim (is_lt (int_cmp p.1.priority r.1.priority)) as (λ (b : Bool).
    AreInOrder (if b then r ∷ placed p t else p ∷ (r ∷ t))
    → AreInOrder (q ∷ (if b then r ∷ placed p t else p ∷ (r ∷ t)))) [
      | true ↦ λ more. (order.0, more)
      | false ↦ λ more. (later, more)
    ] rest

tail_order : (q : Key × Row) (t : Table) → AreInOrder (q ∷ t) → AreInOrder t
tail_order q [] order = tt
tail_order q (r ∷ t) order = order.1

placed_order : (p : Key × Row) (t : Table) → AreAbove p.0 t → AreInOrder t
    → AreInOrder (placed p t)
placed_order p [] all order = tt
placed_order p (q ∷ t) all order =
    elim (is_lt (int_cmp p.1.priority q.1.priority)) as (λ (b : Bool).
    is_lt (int_cmp p.1.priority q.1.priority) ≡ b
    → AreInOrder (if b then q ∷ placed p t else p ∷ (q ∷ t))) [
      | true ↦ λ less.
          behind q p t (not_ahead p q less) order
          (placed_order p t all.1 (tail_order q t order))
      | false ↦ λ not_less. (not_first p q not_less all.0, order)
    ] refl

all_in_order : (t : Table) → ascending (keys_of t) ≡ true → AreInOrder (by_priority t)
all_in_order [] up = tt
all_in_order (p ∷ t) up =
    let parts = and_parts (below_all p.0 (keys_of t)) (ascending (keys_of t)) up in
    placed_order p (by_priority t) (above-all p.0 t (above p.0 t parts.0)) (all_in_order t parts.1)

sorted_by : (t : Table) → AreInOrder t → IsSortedBy is_first t
sorted_by [] order k d low high = absurd (omega arith)
sorted_by (p ∷ []) order k d low high = absurd (omega arith)
sorted_by (p ∷ (q ∷ t)) order zero d low high = order.0
sorted_by (p ∷ (q ∷ t)) order (suc k) d low high =
    let next : suc k + 1 ≡ suc (k + 1) = omega arith in
    subst (λ (n : ℕ).
    is_first (slice_index_or (p ∷ (q ∷ t)) n d) (slice_index_or (p ∷ (q ∷ t)) (suc k) d) ≡ false)
    (sym next) (sorted_by (q ∷ t) order.1 k d (omega arith) (omega arith))

pub priorities_decide : PrioritiesDecide
priorities_decide t up = (all_there t, sorted_by (by_priority t) (all_in_order t up))
