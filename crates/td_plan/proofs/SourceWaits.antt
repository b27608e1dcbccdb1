-- The lines by which a source waits, place by place.
use Rattle.std.proofs.Common.{◌≡◌, ℕ, zero, suc, ◌+◌, ◌<◌, ◌≤◌, Bool, true, false, cond, List, []}
use Rattle.std.proofs.Common.{◌∷◌, ◌++◌, length, map, Option, Some, refl, sym, ap}
use Rattle.std.proofs.Common.{ap₂}
use Rattle.std.proofs.Common.{subst, ◌∙◌, arith}
use Rattle.std.specs.Prelude.{filter, slice_get}
use Rattle.std.specs.Borrow.{Bor}
use Rattle.std.specs.List.{All, AllByRecursion, flat_map, list_any, range_with_len}
use Rattle.std.specs.Option.{option_map_or}
use Rattle.std.proofs.lemmas.Bool.{cond_both}
use Rattle.std.proofs.lemmas.List.Elements.{All-from_recursion}
use Rattle.td_indices.specs.Sources.{KeptSource}
use Rattle.td_plan.specs.declared.relations.Told.{Told}
use Rattle.td_plan.specs.declared.waits.Waits.{Waits}
use Rattle.td_plan.specs.Due.{due_places, is_due}
use Rattle.td_plan.specs.Lines.{Words, check_line, dw_line, no_wait_line}
use Rattle.td_plan.specs.Placing.{Placing}
use Rattle.td_plan.specs.Plan.{WaitingAt, all_waiting, arch_names, check_lines, dw_lines, is_alike}
use Rattle.td_plan.specs.Plan.{is_beside, is_waiting, no_wait_lines, relation_lines, waiting_at}
use Rattle.td_plan.specs.Premises.{Premises, key_at, name_of, places}
use Rattle.td_plan.specs.Relations.{relation_of}
use Rattle.td_plan.specs.Waits as spec
use Rattle.td_plan.specs.Waits.{awaited, is_waitless, waits_of}
use Rattle.td_plan.specs.inner.Sources.{AreAllWaits}
use Rattle.td_plan.specs.inner.Told.{Group, group_of, groups, seen_told, waiting_from}
use Rattle.td_plan.specs.inner.Waiters.{seen_waits}
use Rattle.td_plan.specs.inner.Waiting.{seen}
use Rattle.td_plan.specs.inner.Writing.{checks_at, group_lines, no_waits_at}
use Rattle.td_plan.specs.inner.Writing.{no_waits_of, waits_at}
use Rattle.td_plan.proofs.Waiters.{at-below}

-- ---- 1. groups

-- what holds of each place holds of the places of each group
module _ (P : ℕ → Type 0) where
  mine-hold : (test : WaitingAt → Bool) (ws : List WaitingAt)
      → AllByRecursion (λ (w : WaitingAt). P w.place) ws
      → AllByRecursion P (map (λ (w : WaitingAt). w.place) (filter test ws))
  mine-hold test [] all = tt
  mine-hold test (w ∷ ws) all =
      cond_both (test w) (w ∷ filter test ws) (filter test ws)
      (λ vs. AllByRecursion P (map (λ (v : WaitingAt). v.place) vs))
      (λ passes. (all.0, mine-hold test ws all.1)) (λ fails. mine-hold test ws all.1)

  pub groups-hold : (before ws : List WaitingAt)
      → AllByRecursion (λ (w : WaitingAt). P w.place) ws
      → AllByRecursion (λ (g : Group). AllByRecursion P g.places) (groups before ws)
  groups-hold before [] all = tt
  groups-hold before (w ∷ ws) all =
      by (list_any (is_alike w) before) (groups-hold (before ++ w ∷ []) ws all.1)
    where
      by : (b : Bool)
          → AllByRecursion (λ (g : Group). AllByRecursion P g.places) (groups (before ++ w ∷ []) ws)
          → AllByRecursion (λ (g : Group). AllByRecursion P g.places)
          (cond b [] (group_of w (filter (is_alike w) (w ∷ ws)) ∷ [])
          ++ groups (before ++ w ∷ []) ws)
      by true rest = rest
      by false rest = (mine-hold (is_alike w) (w ∷ ws) all, rest)

  told-hold : (told : List Told)
      → AllByRecursion (λ (g : Group). AllByRecursion P g.places) (map seen_told told)
      → AllByRecursion (λ (t : Told). All P t.places.items) told
  told-hold [] all = tt
  told-hold (t ∷ ts) all = (All-from_recursion P t.places.items all.0, told-hold ts all.1)

  -- what holds of each place holds of the places of what was told
  pub told-within : (told : List Told) (ws : List WaitingAt)
      → AllByRecursion (λ (w : WaitingAt). P w.place) ws → map seen_told told ≡ groups [] ws
      → All (λ (t : Told). All P t.places.items) told
  told-within told ws all is =
      All-from_recursion (λ (t : Told). All P t.places.items) told (told-hold told
      (subst (AllByRecursion (λ (g : Group). AllByRecursion P g.places)) (sym is)
      (groups-hold [] ws all)))

-- the places of a list are below its end
waiting-below : (limit place : ℕ) (ws : List Waits) → place + length ws ≤ limit
    → AllByRecursion (λ (w : WaitingAt). w.place < limit) (waiting_from place ws)
waiting-below limit place [] up = tt
waiting-below limit place (w ∷ ws) up =
    (omega arith, waiting-below limit (place + 1) ws (omega arith))

filter-all : {A : Type 0} (P : A → Type 0) (test : A → Bool) (xs : List A) → AllByRecursion P xs
    → AllByRecursion P (filter test xs)
filter-all P test [] all = tt
filter-all P test (x ∷ xs) all =
    cond_both (test x) (x ∷ filter test xs) (filter test xs) (AllByRecursion P)
    (λ passes. (all.0, filter-all P test xs all.1)) (λ fails. filter-all P test xs all.1)

pub told-below : (told : List Told) (all : List Waits) (limit : ℕ) → length all ≡ limit
    → map seen_told told ≡ groups [] (filter is_waiting (waiting_from 0 all))
    → All (λ (t : Told). All (λ place. place < limit) t.places.items) told
told-below told all limit len is =
    told-within (λ place. place < limit) told (filter is_waiting (waiting_from 0 all))
    (filter-all (λ (w : WaitingAt). w.place < limit) is_waiting (waiting_from 0 all)
    (waiting-below limit 0 all (omega arith))) is

-- ---- 2. the lines of groups

module _ (words : Words) (p : Premises) (s : KeptSource) (all : List Waits) where
  -- what is known at a place is what is waited for there
  abbrev IsKnown : WaitingAt → Type 0
  IsKnown w = map seen (waits_at all w.place) ≡ w.waits

  checks-are : (w : WaitingAt) → IsKnown w
      → checks_at p.archive.table s.head.name all w.place ≡ check_lines p s w
  checks-are w is =
      ap (λ (vs : List spec.Wait). map (λ (v : spec.Wait). check_line (key_at p s w.place) v.name
      v.on) (filter (λ (v : spec.Wait). v.older) vs)) is

  all-checks : (test : WaitingAt → Bool) (ws : List WaitingAt) → AllByRecursion IsKnown ws
      → flat_map (checks_at p.archive.table s.head.name all)
      (map (λ (w : WaitingAt). w.place) (filter test ws))
      ≡ flat_map (check_lines p s) (filter test ws)
  all-checks test [] known = refl
  all-checks test (w ∷ ws) known =
      cond_both (test w) (w ∷ filter test ws) (filter test ws)
      (λ vs. flat_map (checks_at p.archive.table s.head.name all)
      (map (λ (v : WaitingAt). v.place) vs) ≡ flat_map (check_lines p s) vs)
      (λ passes. ap₂ (λ (a b : List (List ℕ)). a ++ b) (checks-are w known.0)
      (all-checks test ws known.1))
      (λ fails. all-checks test ws known.1)

  group-is : (w : WaitingAt) (ws : List WaitingAt) → AllByRecursion IsKnown ws
      → group_lines words p.archive.table s all (group_of w (filter (is_alike w) ws))
      ≡ relation_lines words p s w (filter (is_alike w) ws)
  group-is w ws known =
      ap (λ (ls : List (List ℕ)). dw_line words s (arch_names p
      (map (λ (v : WaitingAt). v.place) (filter (is_alike w) ws))) (relation_of w.waits) ∷ ls)
      (all-checks (is_alike w) ws known)

  pub groups-are : (before ws : List WaitingAt) → AllByRecursion IsKnown ws
      → flat_map (group_lines words p.archive.table s all) (groups before ws)
      ≡ dw_lines words p s before ws
  groups-are before [] known = refl
  groups-are before (w ∷ ws) known =
      by (list_any (is_alike w) before) (groups-are (before ++ w ∷ []) ws known.1)
    where
      by : (b : Bool) → flat_map (group_lines words p.archive.table s all)
          (groups (before ++ w ∷ []) ws) ≡ dw_lines words p s (before ++ w ∷ []) ws
          → flat_map (group_lines words p.archive.table s all)
          (cond b [] (group_of w (filter (is_alike w) (w ∷ ws)) ∷ [])
          ++ groups (before ++ w ∷ []) ws)
          ≡ cond b [] (relation_lines words p s w (filter (is_alike w) (w ∷ ws)))
          ++ dw_lines words p s (before ++ w ∷ []) ws
      by true rest = rest
      by false rest = ap₂ (λ (a b : List (List ℕ)). a ++ b) (group-is w (w ∷ ws) known) rest

  -- what a source waits for is known at each place from one on
  pub waiting-known : (ws : List Waits) (place : ℕ)
      → ((k : ℕ) (w : Waits) → slice_get ws k ≡ Some w → slice_get all (place + k) ≡ Some w)
      → AllByRecursion IsKnown (waiting_from place ws)
  waiting-known [] place are = tt
  waiting-known (w ∷ ws) place are = (
    ap (λ (o : Option Waits). map seen (option_map_or (λ (v : Waits). v.waits.items) o []))
        (ap (slice_get all) (omega arith) ∙ are 0 w refl),
    waiting-known ws (place + 1) (λ k v at. ap (slice_get all) (omega arith) ∙ are (suc k) v at),
  )

-- ---- 3. what a source waits for, place by place

-- lines of names
named-lines : (f : List ℕ → List ℕ) (names : List (Bor (List ℕ)))
    → map (λ (on : Bor (List ℕ)). f on.now) names
    ≡ map f (map (λ (on : Bor (List ℕ)). on.now) names)
named-lines f [] = refl
named-lines f (name ∷ names) = ap (λ (l : List (List ℕ)). f name.now ∷ l) (named-lines f names)

source-lines : (f : List ℕ → List ℕ) (ts : List KeptSource)
    → map f (map name_of ts) ≡ map (λ (t : KeptSource). f t.head.name) ts
source-lines f [] = refl
source-lines f (t ∷ ts) = ap (λ (l : List (List ℕ)). f t.head.name ∷ l) (source-lines f ts)

lines-if : (b : Bool) (f : List ℕ → List ℕ) (ts : List KeptSource)
    → map f (cond b (map name_of ts) [])
    ≡ cond b (map (λ (t : KeptSource). f t.head.name) ts) []
lines-if true f ts = source-lines f ts
lines-if false f ts = refl

-- lines at the numbers that pass a test, and none elsewhere
lines-chosen : (F G : ℕ → List (List ℕ)) (test : ℕ → Bool) (low n : ℕ)
    → ((k : ℕ) → low ≤ k → k < low + n → F k ≡ cond (test k) (G k) [])
    → flat_map F (range_with_len low n) ≡ flat_map G (filter test (range_with_len low n))
lines-chosen F G test low zero are = refl
lines-chosen F G test low (suc n) are =
    by (test low) (are low (omega arith) (omega arith))
    (lines-chosen F G test (low + 1) n (λ k up down. are k (omega arith) (omega arith)))
  where
    by : (b : Bool) → F low ≡ cond b (G low) []
        → flat_map F (range_with_len (low + 1) n)
        ≡ flat_map G (filter test (range_with_len (low + 1) n))
        → F low ++ flat_map F (range_with_len (low + 1) n)
        ≡ flat_map G (cond b (low ∷ filter test (range_with_len (low + 1) n))
        (filter test (range_with_len (low + 1) n)))
    by true here rest = ap₂ (λ (a b : List (List ℕ)). a ++ b) here rest
    by false here rest = ap₂ (λ (a b : List (List ℕ)). a ++ b) here rest

module _ (p : Premises) (x : Placing) (s : KeptSource) where
  -- what a source waits for at a place, if the row there is due
  abbrev row_waits : ℕ → List spec.Wait
  row_waits place = cond (is_due p s place) (waits_of (is_beside x s) p s place) []

  abbrev row_at_place : ℕ → WaitingAt
  row_at_place place = record { place = place; waits = row_waits place }

  -- the rows from a place on
  waiting-are : (ws : List Waits) (place : ℕ)
      → ((k : ℕ) (w : Waits) → slice_get ws k ≡ Some w → seen_waits w ≡ row_waits (place + k))
      → waiting_from place ws ≡ map row_at_place (range_with_len place (length ws))
  waiting-are [] place are = refl
  waiting-are (w ∷ ws) place are =
      let here : seen_waits w ≡ row_waits place =
      are 0 w refl ∙ ap row_waits (omega arith) in
      let rest = waiting-are ws (place + 1) (λ k v at. are (suc k) v at
      ∙ ap row_waits (omega arith)) in
      ap₂ (λ (vs : List spec.Wait) (l : List WaitingAt). record { place = place; waits = vs } ∷ l)
      here rest

  -- rows that aren't due wait for nothing
  due-waiting : (ds : List ℕ) → filter is_waiting (map row_at_place ds)
      ≡ filter is_waiting (map (waiting_at x p s) (filter (is_due p s) ds))
  due-waiting [] = refl
  due-waiting (d ∷ ds) = by (is_due p s d) refl (due-waiting ds)
    where
      by : (b : Bool) → is_due p s d ≡ b → filter is_waiting (map row_at_place ds)
          ≡ filter is_waiting (map (waiting_at x p s) (filter (is_due p s) ds))
          → filter is_waiting (record {
            place = d;
            waits = cond b (waits_of (is_beside x s) p s d) [];
          } ∷ map row_at_place ds)
          ≡ filter is_waiting (map (waiting_at x p s) (cond b (d ∷ filter (is_due p s) ds)
          (filter (is_due p s) ds)))
      by true is rest = ap (λ (l : List WaitingAt). cond (is_waiting (waiting_at x p s d))
          (waiting_at x p s d ∷ l) l) rest
      by false is rest = rest

  module _ (all : List Waits) (are : AreAllWaits p x s all) where
    pub waiting-all : filter is_waiting (waiting_from 0 all) ≡ all_waiting x p s
    waiting-all =
        ap (filter is_waiting) (waiting-are all 0 (λ k w at. (are.at k w at).waits
        ∙ ap row_waits (omega arith))
        ∙ ap (λ (n : ℕ). map row_at_place (range_with_len 0 n)) are.len)
        ∙ due-waiting (places p)

    -- the comments on sources for which it can't wait, at a place
    no-waits-are : (k : ℕ) (w : Waits) → slice_get all k ≡ Some w
        → no_waits_at p.archive.table s.head.name all k
        ≡ cond (is_due p s k) (no_wait_lines x p s k) []
    no-waits-are k w at =
        ap (no_waits_of (key_at p s k))
        (ap (λ (o : Option Waits). option_map_or (λ (v : Waits). v.waitless.items) o []) at)
        ∙ named-lines (no_wait_line (key_at p s k)) w.waitless.items
        ∙ ap (map (no_wait_line (key_at p s k))) (are.at k w at).waitless
        ∙ lines-if (is_due p s k) (no_wait_line (key_at p s k))
        (filter (is_waitless p s k) (awaited (is_beside x s) p s k))

    pub no-waits-all : flat_map (no_waits_at p.archive.table s.head.name all)
        (range_with_len 0 (length all)) ≡ flat_map (no_wait_lines x p s) (due_places p s)
    no-waits-all =
        lines-chosen (no_waits_at p.archive.table s.head.name all) (no_wait_lines x p s)
        (is_due p s) 0 (length all)
        (λ k up low.
        let w = at-below all k (omega arith) in no-waits-are k w.0 w.1)
        ∙ ap (λ (n : ℕ). flat_map (no_wait_lines x p s)
        (filter (is_due p s) (range_with_len 0 n))) are.len

-- all lines by which a source waits
pub dw-all : (words : Words) (p : Premises) (x : Placing) (s : KeptSource) (all : List Waits)
    (told : List Told) → AreAllWaits p x s all
    → map seen_told told ≡ groups [] (filter is_waiting (waiting_from 0 all))
    → flat_map (group_lines words p.archive.table s all) (map seen_told told)
    ≡ dw_lines words p s [] (all_waiting x p s)
dw-all words p x s all told are is =
    ap (flat_map (group_lines words p.archive.table s all)) is
    ∙ groups-are words p s all [] (filter is_waiting (waiting_from 0 all))
    (filter-all (IsKnown words p s all) is_waiting (waiting_from 0 all)
    (waiting-known words p s all all 0 (λ k w at. ap (slice_get all) (omega arith) ∙ at)))
    ∙ ap (dw_lines words p s []) (waiting-all p x s all are)
