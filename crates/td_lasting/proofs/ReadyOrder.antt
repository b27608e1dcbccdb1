-- The numbers of rows in the order in which the rows are to be built.
use Rattle.std.proofs.Common.{◌≡◌, ℕ, zero, suc, ◌+◌, ◌<◌, Bool, true, false, List, [], ◌∷◌}
use Rattle.std.proofs.Common.{refl}
use Rattle.std.proofs.Common.{Option, Some, None, length, sym, ap, subst, ◌∙◌, arith, if◌then◌else◌}
use Rattle.std.proofs.Common.{take, ◌++◌, filter}
use Rattle.std.proofs.Common.{append-nil, append_assoc, cond, get_or}
use Rattle.std.specs.Prelude.{ℤ, pos, ◌&&◌, slice_get, slice_index_or}
use Rattle.std.specs.List.{cons_option, filter_map}
use Rattle.std.specs.Str.{bytes_eq}
use Rattle.std.specs.List.Sorted.{IsPermutation, IsSortedBy}
use Rattle.std.specs.Ordering.{int_cmp, is_lt, nat_cmp}
use Rattle.std.specs.Ordering.{ordering_then}
use Rattle.std.specs.Cmp.{IsTotalOrder}
use Rattle.std.specs.declared.cmp.Ordering.{Ordering}
use Rattle.std.specs.declared.cmp.Ordering.TheVariants.{Less, Equal, Greater}
use Rattle.std.proofs.lemmas.Cmp.{back_total, int_cmp_total, nat_cmp_total, on_total, ranked}
use Rattle.std.proofs.lemmas.Cmp.{then_total}
use Rattle.std.proofs.lemmas.List.Elements.{filter-append, filter_map-append}
use Rattle.std.proofs.lemmas.List.Sorted.{IsPermutation-cons, IsPermutation-middle}
use Rattle.std.proofs.lemmas.List.Sorted.{IsPermutation-refl, IsPermutation-sym}
use Rattle.std.proofs.lemmas.List.Sorted.{IsPermutation-trans}
use Rattle.td_rows.specs.declared.key.Key.{Key}
use Rattle.td_rows.specs.declared.row.Row.{Row}
use Rattle.td_rows.specs.Table.{Table}
use Rattle.td_book.specs.Ready.{is_before, priority_of}
use Rattle.std.proofs.lemmas.List.{take_more}
use Rattle.td_rows.specs.RowLine.{row_line}
use Rattle.td_rows.specs.States.{is_queued}
use Rattle.td_rows.specs.StateWriting.{state_text}
use Rattle.td_rows.proofs.Writing.{state_text-push}
use Rattle.td_rows.proofs.Lists.{take-next}
use Rattle.td_lasting.specs.Ready.{by_priority, is_ready_on, placed, queued, queued_on}
use Rattle.td_lasting.proofs.PriorityLaws.{ahead_not, then_not}
use Rattle.td_lasting.proofs.Sorts.{sorted_same}

-- ---- 1. numbers in order

-- a number before the first whose row's priority isn't greater
abbrev placed_no : Table → ℕ → List ℕ → List ℕ
placed_no t n [] = n ∷ []
placed_no t n (m ∷ ms) = if is_lt (int_cmp (priority_of t n) (priority_of t m))
    then m ∷ placed_no t n ms else n ∷ (m ∷ ms)

-- greater priority first
abbrev ordered : Table → List ℕ → List ℕ
ordered t [] = []
ordered t (n ∷ ns) = placed_no t n (ordered t ns)

-- ---- 2. all of them are there

moved : (t : Table) (n : ℕ) (ms : List ℕ) → IsPermutation (n ∷ ms) (placed_no t n ms)
moved t n [] = IsPermutation-refl (n ∷ [])
moved t n (m ∷ ms) =
    elim (is_lt (int_cmp (priority_of t n) (priority_of t m))) as (λ (b : Bool).
    IsPermutation (n ∷ (m ∷ ms)) (if b then m ∷ placed_no t n ms else n ∷ (m ∷ ms))) [
      | true ↦
          IsPermutation-trans (n ∷ (m ∷ ms)) (m ∷ (n ∷ ms)) (m ∷ placed_no t n ms)
          (IsPermutation-middle (n ∷ []) m ms)
          (IsPermutation-cons m (n ∷ ms) (placed_no t n ms) (moved t n ms))
      | false ↦ IsPermutation-refl (n ∷ (m ∷ ms))
    ]

all_there : (t : Table) (ns : List ℕ) → IsPermutation ns (ordered t ns)
all_there t [] = IsPermutation-refl []
all_there t (n ∷ ns) =
    IsPermutation-trans (n ∷ ns) (n ∷ ordered t ns) (placed_no t n (ordered t ns))
    (IsPermutation-cons n ns (ordered t ns) (all_there t ns)) (moved t n (ordered t ns))

-- ---- 3. they are in order

not_less : (n m : ℕ) → n < m → is_lt (nat_cmp m n) ≡ false
not_less n m low = by (nat_cmp m n) refl
  where
    by : (r : Ordering) → nat_cmp m n ≡ r → is_lt (nat_cmp m n) ≡ false
    by Less is = absurd (let bad : m < n = ranked m n Less (sym is) in omega arith)
    by Equal is = ap is_lt is
    by Greater is = ap is_lt is

-- the one with the greater number, where its priority isn't greater
not_first : (t : Table) (n m : ℕ) → is_lt (int_cmp (priority_of t n) (priority_of t m)) ≡ false
    → n < m → is_before t m n ≡ false
not_first t n m priority low =
    then_not (int_cmp (priority_of t n) (priority_of t m)) (nat_cmp m n) priority
    (not_less n m low)

-- the one whose priority is less
not_ahead : (t : Table) (n m : ℕ) → is_lt (int_cmp (priority_of t n) (priority_of t m)) ≡ true
    → is_before t n m ≡ false
not_ahead t n m less =
    ahead_not (int_cmp (priority_of t n) (priority_of t m))
    (int_cmp (priority_of t m) (priority_of t n)) (nat_cmp n m)
    (int_cmp_total.antisymm (priority_of t m) (priority_of t n)) less

-- the number is below each
abbrev AreAbove : ℕ → List ℕ → Type 0
AreAbove n [] = Unit {0}
AreAbove n (m ∷ ms) = (n < m) × AreAbove n ms

-- each is below those behind it
abbrev pub DoRise : List ℕ → Type 0
DoRise [] = Unit {0}
DoRise (n ∷ ns) = AreAbove n ns × DoRise ns

above-placed : (t : Table) (k n : ℕ) (ms : List ℕ) → k < n → AreAbove k ms
    → AreAbove k (placed_no t n ms)
above-placed t k n [] one all = (one, tt)
above-placed t k n (m ∷ ms) one all =
    elim (is_lt (int_cmp (priority_of t n) (priority_of t m))) as (λ (b : Bool).
    AreAbove k (if b then m ∷ placed_no t n ms else n ∷ (m ∷ ms))) [
      | true ↦ (all.0, above-placed t k n ms one all.1)
      | false ↦ (one, all)
    ]

above-all : (t : Table) (k : ℕ) (ns : List ℕ) → AreAbove k ns → AreAbove k (ordered t ns)
above-all t k [] all = tt
above-all t k (n ∷ ns) all = above-placed t k n (ordered t ns) all.0 (above-all t k ns all.1)

-- of two neighbours the later isn't before the other
abbrev AreInOrder : Table → List ℕ → Type 0
AreInOrder t [] = Unit {0}
AreInOrder t (n ∷ []) = Unit {0}
AreInOrder t (n ∷ (m ∷ ms)) = (is_before t m n ≡ false) × AreInOrder t (m ∷ ms)

behind : (t : Table) (m n : ℕ) (ms : List ℕ) → is_before t n m ≡ false → AreInOrder t (m ∷ ms)
    → AreInOrder t (placed_no t n ms) → AreInOrder t (m ∷ placed_no t n ms)
behind t m n [] later order rest = (later, tt)
behind t m n (r ∷ ms) later order rest =
    elim (is_lt (int_cmp (priority_of t n) (priority_of t r))) as (λ (b : Bool).
    AreInOrder t (if b then r ∷ placed_no t n ms else n ∷ (r ∷ ms))
    → AreInOrder t (m ∷ (if b then r ∷ placed_no t n ms else n ∷ (r ∷ ms)))) [
      | true ↦ λ more. (order.0, more)
      | false ↦ λ more. (later, more)
    ] rest

tail_order : (t : Table) (m : ℕ) (ms : List ℕ) → AreInOrder t (m ∷ ms) → AreInOrder t ms
tail_order t m [] order = tt
tail_order t m (r ∷ ms) order = order.1

placed_order : (t : Table) (n : ℕ) (ms : List ℕ) → AreAbove n ms → AreInOrder t ms
    → AreInOrder t (placed_no t n ms)
placed_order t n [] all order = tt
placed_order t n (m ∷ ms) all order =
    elim (is_lt (int_cmp (priority_of t n) (priority_of t m))) as (λ (b : Bool).
    is_lt (int_cmp (priority_of t n) (priority_of t m)) ≡ b
    → AreInOrder t (if b then m ∷ placed_no t n ms else n ∷ (m ∷ ms))) [
      | true ↦ λ less.
          behind t m n ms (not_ahead t n m less) order
          (placed_order t n ms all.1 (tail_order t m ms order))
      | false ↦ λ other. (not_first t n m other all.0, order)
    ] refl

all_in_order : (t : Table) (ns : List ℕ) → DoRise ns → AreInOrder t (ordered t ns)
all_in_order t [] up = tt
all_in_order t (n ∷ ns) up =
    placed_order t n (ordered t ns) (above-all t n ns up.0) (all_in_order t ns up.1)

sorted_by : (t : Table) (ns : List ℕ) → AreInOrder t ns → IsSortedBy (is_before t) ns
sorted_by t [] order k d low high = absurd (omega arith)
sorted_by t (n ∷ []) order k d low high = absurd (omega arith)
sorted_by t (n ∷ (m ∷ ms)) order zero d low high = order.0
sorted_by t (n ∷ (m ∷ ms)) order (suc k) d low high =
    let next : suc k + 1 ≡ suc (k + 1) = omega arith in
    subst (λ (i : ℕ). is_before t (slice_index_or (n ∷ (m ∷ ms)) i d)
    (slice_index_or (n ∷ (m ∷ ms)) (suc k) d) ≡ false)
    (sym next) (sorted_by t (m ∷ ms) order.1 k d (omega arith) (omega arith))

-- ---- 4. so what a sort leaves is this

abbrev order_of : Table → ℕ → ℕ → Ordering
order_of t i j = ordering_then (int_cmp (priority_of t j) (priority_of t i)) (nat_cmp i j)

total : (t : Table) → IsTotalOrder (order_of t)
total t = then_total (back_total (on_total (priority_of t) int_cmp_total)) nat_cmp_total

then_equal : (o r : Ordering) → ordering_then o r ≡ Equal → r ≡ Equal
then_equal Less r is = absurd cc
then_equal Equal r is = is
then_equal Greater r is = absurd cc

tied : (t : Table) (i j : ℕ) → order_of t i j ≡ Equal → i ≡ j
tied t i j is =
    ranked i j Equal
    (sym (then_equal (int_cmp (priority_of t j) (priority_of t i)) (nat_cmp i j) is))

pub sorted_is : (t : Table) (ns ms : List ℕ) → DoRise ns → IsPermutation ns ms
    → IsSortedBy (is_before t) ms → ms ≡ ordered t ns
sorted_is t ns ms up all order =
    sorted_same (total t) (tied t) ms (ordered t ns)
    (IsPermutation-trans ms ns (ordered t ns) (IsPermutation-sym ns ms all) (all_there t ns))
    order (sorted_by t (ordered t ns) (all_in_order t ns up))

-- ---- 5. the rows with these numbers

-- there is a row with each number
abbrev pub AreThere : Table → List ℕ → Type 0
AreThere t [] = Unit {0}
AreThere t (n ∷ ns) = ((p : Key × Row) × (slice_get t n ≡ Some p)) × AreThere t ns

there-placed : (t : Table) (n : ℕ) (ms : List ℕ) (p : Key × Row) → slice_get t n ≡ Some p
    → AreThere t ms → AreThere t (placed_no t n ms)
there-placed t n [] p at all = ((p, at), tt)
there-placed t n (m ∷ ms) p at all =
    elim (is_lt (int_cmp (priority_of t n) (priority_of t m))) as (λ (b : Bool).
    AreThere t (if b then m ∷ placed_no t n ms else n ∷ (m ∷ ms))) [
      | true ↦ (all.0, there-placed t n ms p at all.1)
      | false ↦ ((p, at), all)
    ]

there-all : (t : Table) (ns : List ℕ) → AreThere t ns → AreThere t (ordered t ns)
there-all t [] all = tt
there-all t (n ∷ ns) all =
    let one = all.0 in there-placed t n (ordered t ns) one.0 one.1 (there-all t ns all.1)

found : (t : Table) (n : ℕ) (ns : List ℕ) (p : Key × Row) → slice_get t n ≡ Some p
    → filter_map (slice_get t) (n ∷ ns) ≡ p ∷ filter_map (slice_get t) ns
found t n ns p at = by (slice_get t n) at
  where
    by : (o : Option (Key × Row)) → o ≡ Some p
        → cons_option o (filter_map (slice_get t) ns) ≡ p ∷ filter_map (slice_get t) ns
    by None is = absurd cc
    by (Some q) is = let same : q ≡ p = cc in
        ap (λ (x : Key × Row). x ∷ filter_map (slice_get t) ns) same

priority_is : (t : Table) (n : ℕ) (p : Key × Row) → slice_get t n ≡ Some p
    → priority_of t n ≡ p.1.priority
priority_is t n p at = by (slice_get t n) at
  where
    by : (o : Option (Key × Row)) → o ≡ Some p
        → (elim o [ Some q ↦ q.1.priority | None ↦ pos 0 ]) ≡ p.1.priority
    by None is = absurd cc
    by (Some q) is = let same : q ≡ p = cc in ap (λ (x : Key × Row). x.1.priority) same

placed_rows : (t : Table) (n : ℕ) (ms : List ℕ) (p : Key × Row) → slice_get t n ≡ Some p
    → AreThere t ms
    → filter_map (slice_get t) (placed_no t n ms) ≡ placed p (filter_map (slice_get t) ms)
placed_rows t n [] p at all = found t n [] p at
placed_rows t n (m ∷ ms) p at all =
    let q = all.0.0 in
    ap (λ (b : Bool).
    filter_map (slice_get t) (if b then m ∷ placed_no t n ms else n ∷ (m ∷ ms)))
    (ap (λ (x : ℤ). is_lt (int_cmp x (priority_of t m))) (priority_is t n p at)
    ∙ ap (λ (x : ℤ). is_lt (int_cmp p.1.priority x)) (priority_is t m q all.0.1))
    ∙ by (placed_rows t n ms p at all.1) (is_lt (int_cmp p.1.priority q.1.priority))
    ∙ ap (placed p) (sym (found t m ms q all.0.1))
  where
    by : filter_map (slice_get t) (placed_no t n ms) ≡ placed p (filter_map (slice_get t) ms)
        → (b : Bool) → filter_map (slice_get t) (if b then m ∷ placed_no t n ms else n ∷ (m ∷ ms))
        ≡ (if b then all.0.0 ∷ placed p (filter_map (slice_get t) ms)
        else p ∷ (all.0.0 ∷ filter_map (slice_get t) ms))
    by rest true = found t m (placed_no t n ms) all.0.0 all.0.1
        ∙ ap (λ (l : Table). all.0.0 ∷ l) rest
    by rest false = found t n (m ∷ ms) p at
        ∙ ap (λ (l : Table). p ∷ l) (found t m ms all.0.0 all.0.1)

rows_in_order : (t : Table) (ns : List ℕ) → AreThere t ns
    → filter_map (slice_get t) (ordered t ns) ≡ by_priority (filter_map (slice_get t) ns)
rows_in_order t [] all = refl
rows_in_order t (n ∷ ns) all =
    let one = all.0 in
    placed_rows t n (ordered t ns) one.0 one.1 (there-all t ns all.1)
    ∙ ap (placed one.0) (rows_in_order t ns all.1)
    ∙ ap by_priority (sym (found t n ns one.0 one.1))

pub sorted_rows : (t : Table) (ns ms : List ℕ) → DoRise ns → AreThere t ns → IsPermutation ns ms
    → IsSortedBy (is_before t) ms
    → filter_map (slice_get t) ms ≡ by_priority (filter_map (slice_get t) ns)
sorted_rows t ns ms up all moves order =
    ap (filter_map (slice_get t)) (sorted_is t ns ms up moves order) ∙ rows_in_order t ns all

all_rows : (t : Table) (ns : List ℕ) → AreThere t ns
    → length (filter_map (slice_get t) ns) ≡ length ns
all_rows t [] all = refl
all_rows t (n ∷ ns) all =
    let one = all.0 in
    ap length (found t n ns one.0 one.1) ∙ ap suc (all_rows t ns all.1)

-- there is a row for each
pub sorted_each : (t : Table) (ns ms : List ℕ) → DoRise ns → AreThere t ns → IsPermutation ns ms
    → IsSortedBy (is_before t) ms → length (filter_map (slice_get t) ms) ≡ length ms
sorted_each t ns ms up all moves order =
    subst (λ (l : List ℕ). length (filter_map (slice_get t) l) ≡ length l)
    (sym (sorted_is t ns ms up moves order)) (all_rows t (ordered t ns) (there-all t ns all))

-- ---- 6. a number more

above_push : (k n : ℕ) (ns : List ℕ) → AreAbove k ns → k < n → AreAbove k (ns ++ n ∷ [])
above_push k n [] all low = (low, tt)
above_push k n (m ∷ ns) all low = (all.0, above_push k n ns all.1 low)

-- all are below a number
abbrev pub AreBelow : ℕ → List ℕ → Type 0
AreBelow n [] = Unit {0}
AreBelow n (m ∷ ms) = (m < n) × AreBelow n ms

pub below_more : (n : ℕ) (ns : List ℕ) → AreBelow n ns → AreBelow (n + 1) ns
below_more n [] all = tt
below_more n (m ∷ ns) all = let low = all.0 in (omega arith, below_more n ns all.1)

pub below_push : (n : ℕ) (ns : List ℕ) → AreBelow n ns → AreBelow (n + 1) (ns ++ n ∷ [])
below_push n [] all = (omega arith, tt)
below_push n (m ∷ ns) all = let low = all.0 in (omega arith, below_push n ns all.1)

pub rise_push : (n : ℕ) (ns : List ℕ) → DoRise ns → AreBelow n ns → DoRise (ns ++ n ∷ [])
rise_push n [] up all = (tt, tt)
rise_push n (m ∷ ns) up all = (above_push m n ns up.0 all.0, rise_push n ns up.1 all.1)

pub there_push : (t : Table) (n : ℕ) (ns : List ℕ) (p : Key × Row) → slice_get t n ≡ Some p
    → AreThere t ns → AreThere t (ns ++ n ∷ [])
there_push t n [] p at all = ((p, at), tt)
there_push t n (m ∷ ns) p at all = (all.0, there_push t n ns p at all.1)

-- ---- 7. a row more

filter_one : (test : Key × Row → Bool) (t : Table) (p : Key × Row)
    → filter test (t ++ p ∷ []) ≡ (if test p then filter test t ++ p ∷ [] else filter test t)
filter_one test t p = filter-append test t (p ∷ []) ∙ by (test p)
  where
    by : (b : Bool) → filter test t ++ cond b (p ∷ []) []
        ≡ (if b then filter test t ++ p ∷ [] else filter test t)
    by true = refl
    by false = append-nil (filter test t)

queued_one : (arch : Option (List ℕ)) (t : Table) (p : Key × Row)
    → queued_on arch (t ++ p ∷ [])
    ≡ (if is_ready_on arch p then queued_on arch t ++ p ∷ [] else queued_on arch t)
queued_one None t p = filter_one (λ q. is_queued q.1.state) t p
queued_one (Some arch) t p =
    ap (filter (λ q. bytes_eq q.0.arch arch)) (filter_one (λ q. is_queued q.1.state) t p)
    ∙ by (is_queued p.1.state)
  where
    test : Key × Row → Bool
    test q = bytes_eq q.0.arch arch

    both : (a b : Bool) → Table
    both a b = if a && b then filter test (queued t) ++ p ∷ [] else filter test (queued t)

    yes : (a : Bool) → (if a then filter test (queued t) ++ p ∷ [] else filter test (queued t))
        ≡ both a true
    yes true = refl
    yes false = refl

    no : (a : Bool) → filter test (queued t) ≡ both a false
    no true = refl
    no false = refl

    by : (b : Bool) → filter test (if b then queued t ++ p ∷ [] else queued t)
        ≡ both (bytes_eq p.0.arch arch) b
    by true = filter_one test (queued t) p ∙ yes (test p)
    by false = no (test p)

-- what is queued of the rows so far, once one more is looked at
pub queued_next : (arch : Option (List ℕ)) (t : Table) (n : ℕ) (p : Key × Row)
    → slice_get t n ≡ Some p → queued_on arch (take (n + 1) t)
    ≡ (if is_ready_on arch p then queued_on arch (take n t) ++ p ∷ []
    else queued_on arch (take n t))
queued_next arch t n p at =
    ap (queued_on arch) (take-next t n p at) ∙ queued_one arch (take n t) p

-- the rows of one number more
pub numbers_push : (t : Table) (ns : List ℕ) (n : ℕ) (p : Key × Row) → slice_get t n ≡ Some p
    → filter_map (slice_get t) (ns ++ n ∷ []) ≡ filter_map (slice_get t) ns ++ p ∷ []
numbers_push t ns n p at =
    filter_map-append (slice_get t) ns (n ∷ [])
    ∙ ap (λ (l : Table). filter_map (slice_get t) ns ++ l) (found t n [] p at)

-- the numbers of the rows so far that are to be built
pub record AreReady (t : Table) (arch : Option (List ℕ)) (n : ℕ) (ns : List ℕ) : Type 0 where
  pub rise : DoRise ns
  pub below : AreBelow n ns
  pub there : AreThere t ns
  pub rows : filter_map (slice_get t) ns ≡ queued_on arch (take n t)

pub ready_push : (t : Table) (arch : Option (List ℕ)) (n : ℕ) (ns ms : List ℕ) (p : Key × Row)
    → AreReady t arch n ns → slice_get t n ≡ Some p → is_ready_on arch p ≡ true
    → ms ≡ ns ++ n ∷ [] → AreReady t arch (n + 1) ms
ready_push t arch n ns ms p are at is same =
    subst (AreReady t arch (n + 1)) (sym same)
    (record {
      rise = rise_push n ns are.rise are.below;
      below = below_push n ns are.below;
      there = there_push t n ns p at are.there;
      rows = numbers_push t ns n p at ∙ ap (λ (l : Table). l ++ p ∷ []) are.rows
          ∙ ap (λ (b : Bool). if b then queued_on arch (take n t) ++ p ∷ []
          else queued_on arch (take n t)) (sym is)
          ∙ sym (queued_next arch t n p at);
    })

pub ready_pass : (t : Table) (arch : Option (List ℕ)) (n : ℕ) (ns ms : List ℕ) (p : Key × Row)
    → AreReady t arch n ns → slice_get t n ≡ Some p → is_ready_on arch p ≡ false
    → ms ≡ ns → AreReady t arch (n + 1) ms
ready_pass t arch n ns ms p are at is same =
    subst (AreReady t arch (n + 1)) (sym same)
    (record {
      rise = are.rise;
      below = below_more n ns are.below;
      there = are.there;
      rows = are.rows ∙ ap (λ (b : Bool). if b then queued_on arch (take n t) ++ p ∷ []
          else queued_on arch (take n t)) (sym is)
          ∙ sym (queued_next arch t n p at);
    })

-- ---- 8. rows by their numbers, as they are written

number_next : (numbers : List ℕ) (i : ℕ) → i < length numbers
    → take (i + 1) numbers ≡ take i numbers ++ get_or numbers i 0 ∷ []
number_next numbers i low = take_more numbers i 0 low

-- the lines so far, once that of the row with the next number is written
pub lines_next : (t : Table) (numbers : List ℕ) (i : ℕ) (p : Key × Row) (first before now : List ℕ)
    → i < length numbers → slice_get t (get_or numbers i 0) ≡ Some p
    → before ≡ first ++ state_text (filter_map (slice_get t) (take i numbers))
    → now ≡ (before ++ row_line p) ++ 10 ∷ []
    → now ≡ first ++ state_text (filter_map (slice_get t) (take (i + 1) numbers))
lines_next t numbers i p first before now low at so_far put =
    let rows = filter_map (slice_get t) (take i numbers) in
    put ∙ ap (λ (l : List ℕ). (l ++ row_line p) ++ 10 ∷ []) so_far
    ∙ ap (λ (l : List ℕ). l ++ 10 ∷ []) (append_assoc first (state_text rows) (row_line p))
    ∙ append_assoc first (state_text rows ++ row_line p) (10 ∷ [])
    ∙ ap (λ (l : List ℕ). first ++ l)
    (sym (ap (λ (l : List ℕ). state_text (filter_map (slice_get t) l)) (number_next numbers i low)
    ∙ ap state_text (numbers_push t (take i numbers) (get_or numbers i 0) p at)
    ∙ state_text-push rows p))

-- there is no row with the next number
pub lines_same : (t : Table) (numbers : List ℕ) (i : ℕ) (first now : List ℕ)
    → i < length numbers → slice_get t (get_or numbers i 0) ≡ None
    → now ≡ first ++ state_text (filter_map (slice_get t) (take i numbers))
    → now ≡ first ++ state_text (filter_map (slice_get t) (take (i + 1) numbers))
lines_same t numbers i first now low none so_far =
    let n = get_or numbers i 0 in
    let rows = filter_map (slice_get t) (take i numbers) in
    so_far ∙ ap (λ (l : Table). first ++ state_text l)
    (sym (ap (filter_map (slice_get t)) (number_next numbers i low)
    ∙ filter_map-append (slice_get t) (take i numbers) (n ∷ [])
    ∙ ap (λ (o : Option (Key × Row)). rows ++ cons_option o []) none ∙ append-nil rows))
