-- The work on the levels, while it goes on.
use Rattle.std.proofs.Common.{◌≡◌, ◌+◌, ◌<◌, ◌≤◌, ◌==◌, ◌⊎◌, ℕ, zero, suc}
use Rattle.std.proofs.Common.{if◌then◌else◌, true, false, List, [], ◌∷◌, ◌++◌, length}
use Rattle.std.proofs.Common.{get_or, set, map, replicate, Some, option_map, slice_get}
use Rattle.std.proofs.Common.{subst, refl, sym, ap, ◌∙◌, inl, inr, arith, count_by}
use Rattle.std.proofs.Common.{get_or-set_other, length-set}
use Rattle.std.specs.List.{All, Contains}
use Rattle.std.proofs.lemmas.Bool.{cases_lt, cases_eq, eqb-true}
use Rattle.std.proofs.lemmas.Bool.Decides.{eqb_tells, nat_tests}
use Rattle.std.proofs.lemmas.Grind.{get_or-set_at}
use Rattle.std.proofs.lemmas.List.{get_or_default, get_or_past, get_or-replicate, length-replicate}
use Rattle.std.proofs.lemmas.List.{length-map}
use Rattle.std.proofs.lemmas.List.Sums.{count_by-le-length}
use Rattle.std.proofs.Math.ListN.{get_or-map}
use Rattle.std.specs.Global.{Vec}
use Rattle.td_waves.specs.Graph.{bases_of, lists, BuildsOn, IsNode, uses, raised, freed}
use Rattle.std.proofs.lemmas.Option.{slice_get-get_or, slice_get_past}
use Rattle.td_waves.specs.Levels.{StandsAt}
use Rattle.td_waves.specs.Levelling.{numbered}
use Rattle.td_waves.specs.declared.level.Level.TheVariants.{At}
use Rattle.td_waves.proofs.Certificate.{Certified, zero_or_more, on_level, in_no_level}
use Rattle.td_waves.proofs.Counting.{is_open, none_passes, some_passes, all_pass, used, contains}
use Rattle.td_waves.proofs.Counting.{closed, fewer}
use Rattle.td_waves.proofs.Released.{within}
use Rattle.td_waves.proofs.Uses.{one, one_same, uses-push}

-- how often a node stands among the ready ones, by how many it waits for and its number
abbrev pub queued_at : ℕ → ℕ → ℕ
queued_at left number = if left == 0 then (if number == 0 then 1 else 0) else 0

-- a height is that of the highest placed node that this one builds on, and one more
abbrev pub Rests : List (List ℕ) → List ℕ → ℕ → ℕ → Type 0
Rests graph numbers s height = (t : ℕ) × (0 < uses t (bases_of graph s)) × (0 < get_or numbers t 0)
    × (height ≡ get_or numbers t 0 + 1)

-- for each node: how many it waits for, its least level so far,
-- its number (0 while it isn't placed); and the ready nodes
pub record Underway (graph : List (List ℕ)) (left heights numbers ready : List ℕ) : Type 0 where
  pub left_len : length left ≡ length graph
  pub heights_len : length heights ≡ length graph
  pub numbers_len : length numbers ≡ length graph
  pub waiting : (s : ℕ) → get_or left s 0 ≡ count_by (is_open numbers) (bases_of graph s)
  pub queued : (s : ℕ) → uses s ready ≡ queued_at (get_or left s 0) (get_or numbers s 1)
  pub settled_left : (s : ℕ) → 0 < get_or numbers s 0 → get_or left s 0 ≡ 0
  pub settled : (s : ℕ) → 0 < get_or numbers s 0 → get_or heights s 0 ≡ get_or numbers s 0
  pub below : (s t : ℕ) → 0 < uses t (bases_of graph s) → 0 < get_or numbers t 0
      → get_or numbers t 0 < get_or heights s 0
  pub tight : (s : ℕ) → s < length graph
      → (get_or heights s 0 ≡ 1) ⊎ Rests graph numbers s (get_or heights s 0)
  pub bound : (s : ℕ) → get_or heights s 0 + uses 0 numbers ≤ length graph + 1

-- ---- a node that is taken from the ready ones

pub record Taken (left numbers rest : List ℕ) (node : ℕ) : Type 0 where
  pub free : get_or left node 0 ≡ 0
  pub unplaced : get_or numbers node 1 ≡ 0
  pub once : uses node rest ≡ 0

free_at : (l n r : ℕ) → r + 1 ≡ queued_at l n → l ≡ 0
free_at l n r e = grind (arith, nat_tests)

open_at : (l n r : ℕ) → r + 1 ≡ queued_at l n → n ≡ 0
open_at l n r e = grind (arith, nat_tests)

once_at : (l n r : ℕ) → r + 1 ≡ queued_at l n → r ≡ 0
once_at l n r e = grind (arith, nat_tests)

pub taken : (graph : List (List ℕ)) (left heights numbers rest : List ℕ) (node : ℕ)
    → Underway graph left heights numbers (rest ++ node ∷ []) → Taken left numbers rest node
taken graph left heights numbers rest node w =
    let e : uses node rest + 1 ≡ queued_at (get_or left node 0) (get_or numbers node 1) =
    omega (arith, w.queued node, uses-push node rest node, one_same node) in
    let l = get_or left node 0 in
    let n = get_or numbers node 1 in
    let r = uses node rest in
    record { free = free_at l n r e; unplaced = open_at l n r e; once = once_at l n r e }

-- what isn't 1 is in the list
pub in_list : (xs : List ℕ) (i : ℕ) → get_or xs i 1 ≡ 0 → i < length xs
in_list xs i h = elim (cases_lt i (length xs)) [
  | inl below ↦ below
  | inr past ↦ absurd
      (omega (arith, get_or_past xs i 1 past))
]

pub is_zero : (xs : List ℕ) (i : ℕ) → get_or xs i 1 ≡ 0 → get_or xs i 0 ≡ 0
is_zero xs i h = get_or_default xs i 0 1 (in_list xs i h) ∙ h

-- ---- it is placed

pub record Placed (graph : List (List ℕ)) (left heights rest : List ℕ) (node : ℕ)
    (users left_now heights_now ready_now : List ℕ) : Type 0 where
  pub users_are : (x : ℕ) → uses x users ≡ uses node (bases_of graph x)
  pub left_is : (s : ℕ) → get_or left_now s 0 + uses s users ≡ get_or left s 0
  pub heights_are : (s : ℕ) → get_or heights_now s 0 ≡ (if uses s users == 0 then get_or heights s 0
      else raised (get_or heights node 0) (get_or heights s 0))
  pub ready_are : (s : ℕ) → uses s ready_now
      ≡ uses s rest + freed (get_or left s 0) (get_or left_now s 0)
  pub left_len : length left_now ≡ length left
  pub heights_len : length heights_now ≡ length heights

-- a height is above 0
pub tall : (graph : List (List ℕ)) (left heights numbers ready : List ℕ)
    → Underway graph left heights numbers ready → (s : ℕ) → s < length graph
    → 0 < get_or heights s 0
tall graph left heights numbers ready w s lt =
    elim (w.tight s lt) [ inl e ↦ omega (arith, e) | inr r ↦ omega (arith, r.3) ]

above : (level h n u : ℕ) → n ≡ (if u == 0 then h else raised level h) → 0 < u → level < n
above level h n u e some = grind (arith, nat_tests)

kept : (level h n u : ℕ) → n ≡ (if u == 0 then h else raised level h) → h ≤ n
kept level h n u e = grind (arith, nat_tests)

same_height : (level h n u : ℕ) → n ≡ (if u == 0 then h else raised level h) → u ≡ 0 → n ≡ h
same_height level h n u e none = grind (arith, nat_tests)

which : (level h n u : ℕ) → n ≡ (if u == 0 then h else raised level h)
    → (n ≡ h) ⊎ ((0 < u) × (n ≡ level + 1))
which level h n u e = elim (eqb_tells u 0) [
  | inl p ↦ inl (same_height level h n u e p.1)
  | inr p ↦ elim (cases_lt level h) [
    | inl less ↦ inl (grind (arith, nat_tests))
    | inr more ↦ inr (omega (arith, p.1), grind (arith, nat_tests))
  ]
]

queued_on : (l n l_now q q_now : ℕ) → q ≡ queued_at l n → q_now ≡ q + freed l l_now → l_now ≤ l
    → (0 < l → n ≡ 0) → q_now ≡ queued_at l_now n
queued_on l n l_now q q_now e f le o = elim (zero_or_more l) [
  | inl none ↦ grind (arith, nat_tests)
  | inr some ↦ let n_is = o some in grind (arith, nat_tests)
]

queued_node : (l l_now q q_now n : ℕ) → q ≡ 0 → l ≡ 0 → l_now ≡ 0 → q_now ≡ q + freed l l_now
    → 0 < n → q_now ≡ queued_at l_now n
queued_node l l_now q q_now n e f g h some = grind (arith, nat_tests)

one_other : (x y : ℕ) → (x ≡ y → ⊥) → one x y ≡ 0
one_other x y ne = elim (eqb_tells y x) [ inl p ↦ absurd (ne (sym p.1)) | inr p ↦ rw p.0 refl ]

-- what waits isn't placed
unplaced_waits : (graph : List (List ℕ)) (left heights numbers ready : List ℕ)
    → Underway graph left heights numbers ready → (s : ℕ) → 0 < get_or left s 0
    → get_or numbers s 1 ≡ 0
unplaced_waits graph left heights numbers ready w s waits =
    let lt : s < length numbers = omega (arith, within left s waits, w.left_len, w.numbers_len) in
    elim (zero_or_more (get_or numbers s 0)) [
      | inl none ↦ get_or_default numbers s 1 0 lt ∙ none
      | inr some ↦ absurd (omega (arith, w.settled_left s some))
    ]

pub placed_next : (graph : List (List ℕ)) (left heights numbers rest : List ℕ) (node : ℕ)
    (users left_now heights_now ready_now : List ℕ)
    → Underway graph left heights numbers (rest ++ node ∷ [])
    → Placed graph left heights rest node users left_now heights_now ready_now
    → Underway graph left_now heights_now (set numbers node (get_or heights node 0)) ready_now
placed_next graph left heights numbers rest node users left_now heights_now ready_now w p =
    let t = taken graph left heights numbers rest node w in
    let level = get_or heights node 0 in
    let lt : node < length numbers = in_list numbers node t.unplaced in
    let some : 0 < level = tall graph left heights numbers (rest ++ node ∷ []) w node
    (omega (arith, w.numbers_len)) in
    let none : get_or numbers node 0 ≡ 0 = is_zero numbers node t.unplaced in
    let at : (d s : ℕ) → s ≡ node → get_or (set numbers node level) s d ≡ level =
    λ d s e. get_or-set_at numbers node s level d e lt in
    let other : (d s : ℕ) → (s ≡ node → ⊥)
    → get_or (set numbers node level) s d ≡ get_or numbers s d =
    λ d s e. get_or-set_other numbers node s level d e in
    record {
      left_len = p.left_len ∙ w.left_len;
      heights_len = p.heights_len ∙ w.heights_len;
      numbers_len = length-set numbers node level ∙ w.numbers_len;
      waiting = λ s. omega (
        arith,
        p.left_is s,
        p.users_are s,
        w.waiting s,
        closed numbers node level (bases_of graph s) t.unplaced some lt,
      );
      queued = λ s. elim (cases_eq s node) [
        | inl e ↦
            let free = ap (λ k. get_or left k 0) e ∙ t.free in
            queued_node (get_or left s 0) (get_or left_now s 0) (uses s rest) (uses s ready_now)
            (get_or (set numbers node level) s 1) (ap (λ k. uses k rest) e ∙ t.once) free
            (omega (arith, p.left_is s, free)) (p.ready_are s) (omega (arith, at 1 s e, some))
        | inr ne ↦
            let was : uses s rest ≡ queued_at (get_or left s 0) (get_or numbers s 1) =
            omega (arith, w.queued s, uses-push s rest node, one_other s node ne) in
            queued_on (get_or left s 0) (get_or numbers s 1) (get_or left_now s 0) (uses s rest)
            (uses s ready_now) was (p.ready_are s) (omega (arith, p.left_is s))
            (unplaced_waits graph left heights numbers (rest ++ node ∷ []) w s)
            ∙ ap (λ n. queued_at (get_or left_now s 0) n) (sym (other 1 s ne))
      ];
      settled_left = λ s h. elim (cases_eq s node) [
        | inl e ↦ omega (arith, p.left_is s, ap (λ k. get_or left k 0) e, t.free)
        | inr ne ↦ omega (arith, p.left_is s, w.settled_left s (omega (arith, other 0 s ne)))
      ];
      settled = λ s h. elim (cases_eq s node) [
        | inl e ↦
            let free = ap (λ k. get_or left k 0) e ∙ t.free in
            same_height level (get_or heights s 0) (get_or heights_now s 0) (uses s users)
            (p.heights_are s) (omega (arith, p.left_is s, free))
            ∙ ap (λ k. get_or heights k 0) e ∙ sym (at 0 s e)
        | inr ne ↦
            let before : 0 < get_or numbers s 0 = omega (arith, other 0 s ne) in
            same_height level (get_or heights s 0) (get_or heights_now s 0) (uses s users)
            (p.heights_are s) (omega (arith, p.left_is s, w.settled_left s before))
            ∙ w.settled s before ∙ sym (other 0 s ne)
      ];
      below = λ s b has h. elim (cases_eq b node) [
        | inl e ↦ omega (
          arith,
          at 0 b e,
          above level (get_or heights s 0) (get_or heights_now s 0)
              (uses s users) (p.heights_are s)
              (omega (arith, p.users_are s, ap (λ k. uses k (bases_of graph s)) e)),
        )
        | inr ne ↦
            let before : 0 < get_or numbers b 0 = omega (arith, other 0 b ne) in
            omega (
              arith,
              other 0 b ne,
              w.below s b has before,
              kept level (get_or heights s 0)
                  (get_or heights_now s 0) (uses s users) (p.heights_are s),
            )
      ];
      tight = λ s in_graph. elim (which level (get_or heights s 0) (get_or heights_now s 0)
          (uses s users) (p.heights_are s)) [
            | inl same ↦ elim (w.tight s in_graph) [
              | inl first ↦ inl (same ∙ first)
              | inr r ↦
                  let apart : r.0 ≡ node → ⊥ =
                  λ e. omega (arith, r.2, ap (λ k. get_or numbers k 0) e, none) in
                  inr (
                    r.0,
                    r.1,
                    omega (arith, other 0 r.0 apart, r.2),
                    omega (arith, other 0 r.0 apart, same, r.3),
                  )
            ]
            | inr up ↦ inr (
              node,
              omega (arith, p.users_are s, up.0),
              omega (arith, at 0 node refl, some),
              omega (arith, up.1, at 0 node refl),
            )
          ];
      bound = λ s. elim (which level (get_or heights s 0) (get_or heights_now s 0) (uses s users)
          (p.heights_are s)) [
            | inl same ↦ omega (arith, same, w.bound s, fewer numbers node level none some lt)
            | inr up ↦ omega (arith, up.1, w.bound node, fewer numbers node level none some lt)
          ];
    }

-- ---- at the end

has_one : (l n : ℕ) → 0 ≡ queued_at l n → n ≡ 0 → 0 < l
has_one l n e z = grind (arith, nat_tests)

not_zero : (n : ℕ) → (n == 0) ≡ false → 0 < n
not_zero n h = grind (arith, nat_tests)

pub finished : (graph : List (List ℕ)) (left heights numbers : List ℕ)
    → Underway graph left heights numbers []
    → Certified (IsNode graph) (BuildsOn graph) (λ s. get_or numbers s 0)
finished graph left heights numbers w = record {
  below = λ x y ax ay b some.
      let none : count_by (is_open numbers) (bases_of graph x) ≡ 0 = sym (w.waiting x)
      ∙ w.settled_left x some in
      let shut : (get_or numbers y 1 == 0) ≡ false =
      none_passes (is_open numbers) (bases_of graph x) y none b in
      let placed : 0 < get_or numbers y 0 =
      omega (
        arith,
        not_zero (get_or numbers y 1) shut,
        get_or_default numbers y 0 1 (omega (arith, ay, w.numbers_len)),
      ) in
      (placed, omega (arith, w.below x y (used (bases_of graph x) y b) placed, w.settled x some));
  tight = λ x ax some. elim (w.tight x ax) [
    | inl first ↦ inl (sym (w.settled x some) ∙ first)
    | inr r ↦ inr (
      r.0,
      omega (arith, within numbers r.0 r.2, w.numbers_len),
      contains (bases_of graph x) r.0 r.1,
      sym (w.settled x some) ∙ r.3,
    )
  ];
  stuck = λ x ax none.
      let unplaced : get_or numbers x 1 ≡ 0 =
      get_or_default numbers x 1 0 (omega (arith, ax, w.numbers_len)) ∙ none in
      let waits : 0 < count_by (is_open numbers) (bases_of graph x) =
      omega (
        arith,
        has_one (get_or left x 0) (get_or numbers x 1) (w.queued x) unplaced,
        w.waiting x,
      ) in
      let one_left = some_passes (is_open numbers) (bases_of graph x) waits in
      let its : get_or numbers one_left.0 1 ≡ 0 =
      eqb-true (get_or numbers one_left.0 1) 0 one_left.2 in (
        one_left.0,
        omega (arith, in_list numbers one_left.0 its, w.numbers_len),
        one_left.1,
        is_zero numbers one_left.0 its,
      );
}

-- ---- at the start

queued_first : (l l1 n : ℕ) → l1 ≡ l → n ≡ 0 → (if l1 == 0 then 1 else 0) ≡ queued_at l n
queued_first l l1 n e z = grind (arith, nat_tests)

queued_past : (l l1 n : ℕ) → l1 ≡ 1 → n ≡ 1 → (if l1 == 0 then 1 else 0) ≡ queued_at l n
queued_past l l1 n e z = grind (arith, nat_tests)

open_first : (n x : ℕ) → x < n → is_open (replicate n 0) x ≡ true
open_first n x lt = rw (get_or-replicate {A = ℕ} n x 0 1 lt) refl

pub started : (graph : List (List ℕ)) (left heights numbers ready : List ℕ)
    → left ≡ map length graph → heights ≡ replicate (length graph) 1
    → numbers ≡ replicate (length graph) 0
    → ((s : ℕ) → uses s ready ≡ (if get_or left s 1 == 0 then 1 else 0))
    → ((s y : ℕ) → Contains (bases_of graph s) y → y < length graph)
    → Underway graph left heights numbers ready
started graph left heights numbers ready left_is heights_are numbers_are ready_are in_range =
    let size = length graph in
    let left_len : length left ≡ size = ap (λ (l : List ℕ). length l) left_is
    ∙ length-map graph length in
    let heights_len : length heights ≡ size = ap (λ (l : List ℕ). length l) heights_are
    ∙ length-replicate size 1 in
    let numbers_len : length numbers ≡ size = ap (λ (l : List ℕ). length l) numbers_are
    ∙ length-replicate size 0 in
    let zero_at : (s : ℕ) → get_or numbers s 0 ≡ 0 = λ s. elim (cases_lt s size) [
      | inl lt ↦ ap (λ l. get_or l s 0) numbers_are ∙ get_or-replicate {A = ℕ} size s 0 0 lt
      | inr past ↦ get_or_past numbers s 0 (omega arith)
    ] in
    let nothing : (s : ℕ) → 0 < get_or numbers s 0 → ⊥ = λ s h. omega (arith, zero_at s) in
    record {
      left_len = left_len;
      heights_len = heights_len;
      numbers_len = numbers_len;
      waiting = λ s.
          ap (λ l. get_or l s 0) left_is ∙ get_or-map length graph s []
          ∙ sym (all_pass (is_open numbers) (bases_of graph s)
          (λ y has. ap (λ l. is_open l y) numbers_are ∙ open_first size y (in_range s y has)));
      queued = λ s. ready_are s ∙ elim (cases_lt s size) [
        | inl lt ↦ queued_first (get_or left s 0) (get_or left s 1) (get_or numbers s 1)
            (get_or_default left s 1 0 (omega arith))
            (get_or_default numbers s 1 0 (omega arith) ∙ zero_at s)
        | inr past ↦ queued_past (get_or left s 0) (get_or left s 1) (get_or numbers s 1)
            (get_or_past left s 1 (omega arith)) (get_or_past numbers s 1 (omega arith))
      ];
      settled_left = λ s h. absurd (nothing s h);
      settled = λ s h. absurd (nothing s h);
      below = λ s t has h. absurd (nothing t h);
      tight = λ s lt. inl (ap (λ l. get_or l s 0) heights_are
          ∙ get_or-replicate {A = ℕ} size s 1 0 lt);
      bound = λ s.
          let all : uses 0 numbers ≤ length numbers = count_by-le-length (λ y. y == 0) numbers in
          elim (cases_lt s size) [
            | inl lt ↦ omega (
              arith,
              ap (λ l. get_or l s 0) heights_are,
              get_or-replicate {A = ℕ} size s 1 0 lt,
              all,
              numbers_len,
            )
            | inr past ↦ omega (
              arith,
              get_or_past heights s 0 (omega (arith, heights_len)),
              all,
              numbers_len,
            )
          ];
    }

-- what the lists of vectors have is in range
pub all_in_range : (gs : List (Vec ℕ)) (n : ℕ) → All (λ bases. All (λ b. b < n) bases.items) gs
    → (s y : ℕ) → Contains (bases_of (lists gs) s) y → y < n
all_in_range [] n h s y has = absurd (omega (arith, has.1))
all_in_range (v ∷ vs) n h zero y has = rw has.2 at (h 0 v (omega arith) has.0 y has.1)
all_in_range (v ∷ vs) n h (suc s) y has =
    all_in_range vs n (λ k d lt. h (suc k) d (omega arith)) s y has

not_yet : (n : ℕ) → 0 < n → (n == 0) ≡ false
not_yet n some = grind (arith, nat_tests)

pub at_number : (n : ℕ) → 0 < n → numbered n ≡ At n
at_number n some = rw (not_yet n some) refl

-- the numbers at the end are the levels
pub stands : (graph : List (List ℕ)) (left heights numbers : List ℕ)
    → Underway graph left heights numbers [] → (node : ℕ)
    → StandsAt (IsNode graph) (BuildsOn graph) node (option_map numbered (slice_get numbers node))
stands graph left heights numbers w node = elim (cases_lt node (length numbers)) [
  | inl lt ↦
      let ok = finished graph left heights numbers w in
      let here = slice_get-get_or numbers node 0 lt in
      let its : IsNode graph node = omega (arith, w.numbers_len) in
      elim (zero_or_more (get_or numbers node 0)) [
        | inl none ↦ rw (here, none)
            (in_no_level (IsNode graph) (BuildsOn graph) (λ s. get_or numbers s 0) ok node its none)
        | inr some ↦ subst (λ l. StandsAt (IsNode graph) (BuildsOn graph) node
            (option_map numbered l)) (sym here)
            (subst (λ l. StandsAt (IsNode graph) (BuildsOn graph) node (Some l))
            (sym (at_number (get_or numbers node 0) some))
            (on_level (IsNode graph) (BuildsOn graph) (λ s. get_or numbers s 0) ok
            (get_or numbers node 0) node its refl some))
      ]
  | inr past ↦ rw (slice_get_past numbers node past) (λ its. omega (arith, w.numbers_len))
]
