-- The sources with a due row in the order of their lines, and the sources of a part, by numbers.
use Rattle.std.proofs.Common.{◌≡◌, ◌⊎◌, ℕ, zero, suc, ◌+◌, ◌<◌, Bool, true, false}
use Rattle.std.proofs.Common.{cond, List, [], ◌∷◌, map, Option, Some, None}
use Rattle.std.proofs.Common.{refl, sym, ap, subst, ◌∙◌, inl, inr, arith}
use Rattle.std.specs.Prelude.{filter, option_map, slice_get, slice_index}
use Rattle.std.specs.List.{Contains, cons_option}
use Rattle.std.specs.List.Sorted.{IsPermutation, IsSorted}
use Rattle.std.specs.Ordering.{is_lt}
use Rattle.std.proofs.lemmas.Bool.{cond_both}
use Rattle.std.proofs.lemmas.List.Sorted.{Contains-permutation, IsPermutation-sym, ranks_by}
use Rattle.std.proofs.lemmas.Option.{slice_get_within}
use Rattle.td_text.proofs.Chain.{some_is}
use Rattle.td_indices.specs.Archive.{places_from}
use Rattle.td_indices.specs.Sources.{KeptSource}
use Rattle.td_indices.proofs.OfferLaws.{has_cases, has_first, has_more}
use Rattle.td_plan.specs.declared.movers.Mover.{Mover}
use Rattle.td_plan.specs.declared.plan.Plan.{Plan}
use Rattle.td_plan.specs.Due.{has_due}
use Rattle.td_plan.specs.InOrder.{is_before}
use Rattle.td_plan.specs.Placing.{Placing, is_place_before}
use Rattle.td_plan.specs.Plan.{due_sources}
use Rattle.td_plan.specs.Premises.{Premises}
use Rattle.td_plan.specs.Waits.{is_source_before}
use Rattle.td_plan.specs.inner.Movers.{has_due_motion, mover_name}
use Rattle.td_plan.specs.inner.Ordering.{due_numbers, due_positions, position_cmp}
use Rattle.td_plan.specs.inner.Ordering.{position_of}
use Rattle.td_plan.specs.inner.Planned.{IsPlanOf, placing_in, sources_at}
use Rattle.td_plan.specs.inner.Waiters.{kept_of}
use Rattle.td_plan.proofs.Chosen.{in_order-again, in_order-found, map-again, map-found}
use Rattle.td_plan.proofs.Existing.{filter-has, has-filter, none_has}
use Rattle.td_plan.proofs.MovingSources.{mover-due, mover-for, mover-has, sources-any}
use Rattle.td_plan.proofs.OneText.{due-moves}
use Rattle.td_plan.proofs.Picked.{picked-again, picked-found}
use Rattle.td_plan.proofs.PlaceOrder.{place-again, place-any, place-once, place-trans}
use Rattle.td_plan.proofs.PlaceOrder.{position-any, position-found, position-total}
use Rattle.td_plan.proofs.Planned.{first-is, first-there, step-at}
use Rattle.td_plan.proofs.Rising.{AnyWay, Rising, any-way-filter, before-once}
use Rattle.td_plan.proofs.Rising.{order-rises, rising-same}
use Rattle.td_plan.proofs.Sorted.{sorted-rises}

-- ---- 1. the numbers of what passes

-- a number is that of an item that passes
abbrev pub IsPlaced : {A : Type 0} → (A → Bool) → ℕ → ℕ → List A → Type 0
IsPlaced {A} test k n xs = (j : ℕ) × (x : A) × (k ≡ n + j) × (slice_get xs j ≡ Some x)
    × (test x ≡ true)

pub place-has : {A : Type 0} (test : A → Bool) (n : ℕ) (xs : List A) (k : ℕ)
    → Contains (places_from test n xs) k → IsPlaced test k n xs
place-has test n [] k has = absurd (none_has k has)
place-has {A} test n (x ∷ xs) k has =
    by (test x) refl (place-has test (n + 1) xs k) has
  where
    later : IsPlaced test k (n + 1) xs → IsPlaced test k n (x ∷ xs)
    later rest = let at = rest.2 in (suc rest.0, rest.1, omega arith, rest.3, rest.4)

    by : (b : Bool) → test x ≡ b → (Contains (places_from test (n + 1) xs) k
        → IsPlaced test k (n + 1) xs)
        → Contains (cond b (n ∷ places_from test (n + 1) xs) (places_from test (n + 1) xs)) k
        → IsPlaced test k n (x ∷ xs)
    by true is found mine = elim (has_cases n (places_from test (n + 1) xs) k mine) [
      | inl same ↦ (0, x, omega arith, refl, is)
      | inr rest ↦ later (found rest)
    ]
    by false is found mine = later (found mine)

pub has-place : {A : Type 0} (test : A → Bool) (n : ℕ) (xs : List A) (j : ℕ) (x : A)
    → slice_get xs j ≡ Some x → test x ≡ true → Contains (places_from test n xs) (n + j)
has-place test n [] j x at is = absurd (cc)
has-place test n (y ∷ ys) zero x at is =
    let same : y ≡ x = cc in
    let here : n + 0 ≡ n = omega arith in
    subst (λ (l : List ℕ). Contains l (n + 0))
    (sym (ap (λ (b : Bool). cond b (n ∷ places_from test (n + 1) ys)
    (places_from test (n + 1) ys)) (ap test same ∙ is)))
    (subst (Contains (n ∷ places_from test (n + 1) ys)) (sym here)
    (has_first n (places_from test (n + 1) ys)))
has-place test n (y ∷ ys) (suc j) x at is =
    let next : n + 1 + j ≡ n + suc j = omega arith in
    let rest : Contains (places_from test (n + 1) ys) (n + suc j) =
    subst (Contains (places_from test (n + 1) ys)) next (has-place test (n + 1) ys j x at is) in
    cond_both (test y) (n ∷ places_from test (n + 1) ys) (places_from test (n + 1) ys)
    (λ (l : List ℕ). Contains l (n + suc j))
    (λ passes. has_more n (places_from test (n + 1) ys) (n + suc j) rest) (λ fails. rest)

-- one of two things that are made of different numbers is before the other
places-any : {A B : Type 0} (lt : B → B → Bool) (f : ℕ → B) (test : A → Bool)
    → ((j k : ℕ) → j < k → (lt (f j) (f k) ≡ true) ⊎ (lt (f k) (f j) ≡ true))
    → (n : ℕ) (xs : List A) → AnyWay lt (map f (places_from test n xs))
places-any lt f test h n [] = tt
places-any lt f test h n (x ∷ xs) =
    cond_both (test x) (n ∷ places_from test (n + 1) xs) (places_from test (n + 1) xs)
    (λ (l : List ℕ). AnyWay lt (map f l))
    (λ passes. (
      (λ y has.
          let from = map-found f (places_from test (n + 1) xs) y has in
          let at = place-has test (n + 1) xs from.0 from.1 in
          let low : n < from.0 = (let is = at.2 in omega arith) in
          subst (λ w. (lt (f n) w ≡ true) ⊎ (lt w (f n) ≡ true)) from.2 (h n from.0 low)),
      places-any lt f test h (n + 1) xs,
    ))
    (λ fails. places-any lt f test h (n + 1) xs)

-- ---- 2. positions

-- one of two sources with different names always has the earlier line
pub weaker-any : (x : Placing) (ss : List KeptSource) → AnyWay is_source_before ss
    → AnyWay (is_place_before x) ss
weaker-any x [] way = tt
weaker-any x (s ∷ ss) way = (
  (λ t has. place-any (x.step s.head.name) (x.first s.head.name) s.head.name
      (x.step t.head.name) (x.first t.head.name) t.head.name (λ same. elim (way.0 t has) [
        | inl low ↦ before-once s.head.name s.head.name
            (subst (λ (n : List ℕ). is_before s.head.name n ≡ true) (sym same) low)
            (subst (λ (n : List ℕ). is_before s.head.name n ≡ true) (sym same) low)
        | inr low ↦ before-once s.head.name s.head.name
            (subst (λ (n : List ℕ). is_before n s.head.name ≡ true) (sym same) low)
            (subst (λ (n : List ℕ). is_before n s.head.name ≡ true) (sym same) low)
      ])),
  weaker-any x ss way.1,
)

module _ (p : Premises) (plan : Plan) (is : IsPlanOf p plan) where
  -- a source is the one at a position, and the position is its own
  abbrev IsAt : ℕ × ℕ × ℕ → KeptSource → Type 0
  IsAt q s = (m : Mover) × (slice_get plan.movers.items q.2 ≡ Some m) × (kept_of m ≡ s)
      × (q ≡ position_of plan.parts q.2)

  -- the source at the lesser of two positions has the earlier line
  position-before : (q r : ℕ × ℕ × ℕ) (s t : KeptSource) → IsAt q s → IsAt r t
      → is_lt (position_cmp q r) ≡ true → is_place_before (placing_in plan) s t ≡ true
  position-before q r s t mine its low =
      let x = placing_in plan in
      let ms = plan.movers.items in
      let sm : s.head.name ≡ mover_name mine.0 =
      ap (λ (u : KeptSource). u.head.name) (sym mine.2) in
      let tm : t.head.name ≡ mover_name its.0 = ap (λ (u : KeptSource). u.head.name) (sym its.2) in
      let sstep : x.step s.head.name ≡ q.0 =
      ap x.step sm ∙ step-at p plan is q.2 mine.0 mine.1
      ∙ sym (ap (λ (u : ℕ × ℕ × ℕ). u.0) mine.3) in
      let tstep : x.step t.head.name ≡ r.0 =
      ap x.step tm ∙ step-at p plan is r.2 its.0 its.1
      ∙ sym (ap (λ (u : ℕ × ℕ × ℕ). u.0) its.3) in
      let f = first-there p plan is q.2 (slice_get_within ms q.2 mine.0 mine.1) in
      let g = first-there p plan is r.2 (slice_get_within ms r.2 its.0 its.1) in
      let qfirst : q.1 ≡ slice_index plan.parts.firsts.items q.2 =
      ap (λ (u : ℕ × ℕ × ℕ). u.1) mine.3 in
      let rfirst : r.1 ≡ slice_index plan.parts.firsts.items r.2 =
      ap (λ (u : ℕ × ℕ × ℕ). u.1) its.3 in
      let sfirst : x.first s.head.name ≡ mover_name f.0 =
      ap x.first sm ∙ first-is p plan is q.2 mine.0 f.0 mine.1 f.1 in
      let tfirst : x.first t.head.name ≡ mover_name g.0 =
      ap x.first tm ∙ first-is p plan is r.2 its.0 g.0 its.1 g.1 in
      place-again (x.step s.head.name) (x.first s.head.name) s.head.name
      (x.step t.head.name) (x.first t.head.name) t.head.name
      (elim (position-found q r low) [
        | inl less ↦ inl (omega (arith, sstep, tstep, less))
        | inr rest ↦ inr (
          sstep ∙ rest.0 ∙ sym tstep,
          elim rest.1 [
            | inl less ↦ inl (subst (λ (a : List ℕ). is_before a (x.first t.head.name) ≡ true)
                (sym sfirst) (subst (λ (a : List ℕ). is_before (mover_name f.0) a ≡ true)
                (sym tfirst) (is.movers.rising (slice_index plan.parts.firsts.items q.2)
                (slice_index plan.parts.firsts.items r.2) f.0 g.0
                (omega (arith, qfirst, rfirst, less)) f.1 g.1)))
            | inr also ↦ inr (
              sfirst ∙ ap mover_name (some_is f.0 g.0 (sym f.1
                  ∙ ap (slice_get ms) (sym qfirst ∙ also.0 ∙ rfirst) ∙ g.1)) ∙ sym tfirst,
              subst (λ (a : List ℕ). is_before a t.head.name ≡ true) (sym sm)
                  (subst (λ (a : List ℕ). is_before (mover_name mine.0) a ≡ true) (sym tm)
                  (is.movers.rising q.2 r.2 mine.0 its.0 also.1 mine.1 its.1)),
            )
          ],
        )
      ])

  abbrev lt : ℕ × ℕ × ℕ → ℕ × ℕ × ℕ → Bool
  lt q r = is_lt (position_cmp q r)

  abbrev at : ℕ → Option KeptSource
  at n = option_map kept_of (slice_get plan.movers.items n)

  at-is : (n : ℕ) (s : KeptSource) → at n ≡ Some s
      → (m : Mover) × (slice_get plan.movers.items n ≡ Some m) × (kept_of m ≡ s)
  at-is n s h = by (slice_get plan.movers.items n) refl h
    where
      by : (o : Option Mover) → slice_get plan.movers.items n ≡ o
          → option_map kept_of o ≡ Some s
          → (m : Mover) × (slice_get plan.movers.items n ≡ Some m) × (kept_of m ≡ s)
      by None there g = absurd (cc)
      by (Some m) there g = (m, there, some_is (kept_of m) s g)

  -- the sources at positions that rise are in the order of their lines
  sources-rise : (qs : List (ℕ × ℕ × ℕ))
      → ((q : ℕ × ℕ × ℕ) → Contains qs q → q ≡ position_of plan.parts q.2) → Rising lt qs
      → Rising (is_place_before (placing_in plan))
      (sources_at plan.movers.items (map (λ (q : ℕ × ℕ × ℕ). q.2) qs))
  sources-rise [] are rises = tt
  sources-rise (q ∷ qs) are rises = by (at q.2) refl
      (sources-rise qs (λ r has. are r (has_more q qs r has)) rises.1)
    where
      by : (o : Option KeptSource) → at q.2 ≡ o
          → Rising (is_place_before (placing_in plan))
          (sources_at plan.movers.items (map (λ (r : ℕ × ℕ × ℕ). r.2) qs))
          → Rising (is_place_before (placing_in plan)) (cons_option o
          (sources_at plan.movers.items (map (λ (r : ℕ × ℕ × ℕ). r.2) qs)))
      by None there rest = rest
      by (Some s) there rest = (
        (λ t has.
            let from = picked-found at (map (λ (r : ℕ × ℕ × ℕ). r.2) qs) t has in
            let r = map-found (λ (u : ℕ × ℕ × ℕ). u.2) qs from.0 from.1 in
            let mine = at-is q.2 s there in
            let its = at-is r.0.2 t (ap at r.2 ∙ from.2) in
            position-before q r.0 s t (mine.0, mine.1, mine.2, are q (has_first q qs))
            (its.0, its.1, its.2, are r.0 (has_more q qs r.0 r.1)) (rises.0 r.0 r.1)),
        rest,
      )

  module _ (positions : List (ℕ × ℕ × ℕ))
      (all : IsPermutation (due_positions plan.parts plan.movers.items) positions)
      (sorted : IsSorted position_cmp positions) where
    -- each position is that of a source with a due row
    pub position-due : (q : ℕ × ℕ × ℕ) → Contains positions q
        → (m : Mover) × (slice_get plan.movers.items q.2 ≡ Some m) × (has_due_motion m ≡ true)
        × (q ≡ position_of plan.parts q.2)
    position-due q has =
        let dues = due_positions plan.parts plan.movers.items in
        let mine =
        Contains-permutation positions dues q (IsPermutation-sym dues positions all) has in
        let from = map-found (position_of plan.parts) (due_numbers plan.movers.items) q mine in
        let place = place-has has_due_motion 0 plan.movers.items from.0 from.1 in
        let number : q.2 ≡ place.0 =
        sym (ap (λ (u : ℕ × ℕ × ℕ). u.2) from.2) ∙ place.2 ∙ omega arith in (
          place.1,
          ap (slice_get plan.movers.items) number ∙ place.3,
          place.4,
          sym from.2
              ∙ ap (position_of plan.parts) (ap (λ (u : ℕ × ℕ × ℕ). u.2) from.2),
        )

    pub due-are : due_sources (placing_in plan) p
        ≡ sources_at plan.movers.items (map (λ (q : ℕ × ℕ × ℕ). q.2) positions)
    due-are =
        let x = placing_in plan in
        let ms = plan.movers.items in
        let dues = due_positions plan.parts ms in
        let numbers : List ℕ = map (λ (q : ℕ × ℕ × ℕ). q.2) positions in
        let sources : List KeptSource = filter (has_due p) p.archive.sources in
        rising-same (is_place_before x) (due_sources x p) (sources_at ms numbers)
        (λ s t has low back. place-once (x.step s.head.name) (x.first s.head.name) s.head.name
        (x.step t.head.name) (x.first t.head.name) t.head.name low back)
        (order-rises (is_place_before x)
        (λ s t u. place-trans (x.step s.head.name) (x.first s.head.name) s.head.name
        (x.step t.head.name) (x.first t.head.name) t.head.name
        (x.step u.head.name) (x.first u.head.name) u.head.name) sources
        (any-way-filter (is_place_before x) (has_due p) p.archive.sources
        (weaker-any x p.archive.sources (sources-any p is.sound ms is.movers))))
        (sources-rise positions (λ q has. (position-due q has).3)
        (sorted-rises lt (ranks_by position-total (λ (q : ℕ × ℕ × ℕ). q)) dues positions
        (places-any lt (position_of plan.parts) has_due_motion
        (λ j k low. position-any (position_of plan.parts j) (position_of plan.parts k) low)
        0 ms) all sorted))
        (λ s has.
        let of = has-filter (has_due p) p.archive.sources s
        (in_order-found (is_place_before x) sources s has) in
        let m = mover-for p is.sound ms is.movers s of.0 (due-moves p s of.1) in
        let due : has_due_motion m.1 ≡ true =
        mover-due p is.sound ms is.movers m.0 m.1 m.2 ∙ ap (has_due p) m.3 ∙ of.1 in
        let number : Contains (due_numbers ms) m.0 =
        subst (Contains (due_numbers ms)) (omega arith)
        (has-place has_due_motion 0 ms m.0 m.1 m.2 due) in
        let position : Contains positions (position_of plan.parts m.0) =
        Contains-permutation dues positions (position_of plan.parts m.0) all
        (map-again (position_of plan.parts) (due_numbers ms) m.0 number) in
        picked-again at numbers m.0 s
        (map-again (λ (q : ℕ × ℕ × ℕ). q.2) positions (position_of plan.parts m.0) position)
        (ap (option_map kept_of) m.2 ∙ ap (λ u. Some u) m.3))
        (λ s has.
        let from = picked-found at numbers s has in
        let q = map-found (λ (u : ℕ × ℕ × ℕ). u.2) positions from.0 from.1 in
        let due = position-due q.0 q.1 in
        let mine = at-is q.0.2 s (ap at q.2 ∙ from.2) in
        let same : due.0 ≡ mine.0 = some_is due.0 mine.0 (sym due.1 ∙ mine.1) in
        let has_it : Contains p.archive.sources s = subst (Contains p.archive.sources) mine.2
        (mover-has p is.sound ms is.movers q.0.2 mine.0 mine.1) in
        let is_it : has_due p s ≡ true =
        ap (has_due p) (sym mine.2)
        ∙ sym (mover-due p is.sound ms is.movers q.0.2 mine.0 mine.1)
        ∙ ap has_due_motion (sym same) ∙ due.2 in
        in_order-again (is_place_before x) sources s
        (filter-has (has_due p) p.archive.sources s has_it is_it))
