-- The sources of a part, and the comments before a source, by numbers.
use Rattle.std.proofs.Common.{◌≡◌, ℕ, suc, ◌+◌, ◌<◌, ◌≤◌, ◌==◌, ◌&&◌, ◌++◌, Bool, true}
use Rattle.std.proofs.Common.{false, cond, List, [], ◌∷◌, codes, length, map, Option, Some}
use Rattle.std.proofs.Common.{None, refl, sym, ap, ap₂, subst, ◌∙◌, inl, inr, arith}
use Rattle.std.proofs.Common.{append_assoc, append-nil}
use Rattle.std.specs.Prelude.{filter, option_map, slice_get, slice_index}
use Rattle.std.specs.List.{All, cons_option, flat_map}
use Rattle.std.specs.Str.{bytes_eq}
use Rattle.std.proofs.lemmas.Bool.{and_parts, cases_Bool, eqb-true, false≢true}
use Rattle.std.proofs.lemmas.Bool.{le-ltb, lt-ltb}
use Rattle.std.proofs.lemmas.List.{length-map}
use Rattle.std.proofs.lemmas.List.Elements.{All-head, All-tail}
use Rattle.std.proofs.lemmas.Option.{get_or_from_slice_get, slice_get_within}
use Rattle.std.proofs.lemmas.Slice.Eq.{bytes_eq-Decides}
use Rattle.td_text.proofs.Chain.{some_is}
use Rattle.td_text.specs.Lines.{text_of}
use Rattle.td_indices.specs.Archive.{places_from}
use Rattle.td_indices.specs.Sources.{KeptSource}
use Rattle.td_plan.specs.declared.movers.Mover.{Mover}
use Rattle.td_plan.specs.declared.plan.Plan.{Plan}
use Rattle.td_plan.specs.Due.{moves}
use Rattle.td_plan.specs.Lines.{part_line, spaced}
use Rattle.td_plan.specs.Placing.{Moves}
use Rattle.td_plan.specs.Plan.{is_beside, is_same_part, is_same_step, lines_before, part_lines}
use Rattle.td_plan.specs.Plan.{part_of}
use Rattle.td_plan.specs.Premises.{Premises, name_of}
use Rattle.td_plan.specs.inner.Movers.{has_moving_motion, mover_name}
use Rattle.td_plan.specs.inner.Ordering.{members_at}
use Rattle.td_plan.specs.inner.Planned.{IsPlanOf, before_lines, is_part, is_step, last_at}
use Rattle.td_plan.specs.inner.Planned.{placing_in, source_if, sources_at}
use Rattle.td_plan.specs.inner.Waiters.{kept_of}
use Rattle.td_plan.proofs.Chosen.{any-found}
use Rattle.td_plan.proofs.MovingSources.{mover-has, mover-moving, moving-are}
use Rattle.td_plan.proofs.Named.{one-named}
use Rattle.td_plan.proofs.Picked.{has-numbered}
use Rattle.td_plan.proofs.OneText.{mover-moves}
use Rattle.td_plan.proofs.Planned.{beside-is, first-is, first-there, step-at}
use Rattle.td_plan.proofs.Waiters.{at-below}

-- ---- 1. the sources of a part

-- the items of a list whose partners in another list pass a test
module _ (ms : List Mover) (keep : KeptSource → Bool) (chosen : ℕ → Bool) where
  pub chosen-are : (ns : List Mover) (fs : List ℕ) (n : ℕ) → length ns ≡ length fs
      → ((k : ℕ) (m : Mover) → slice_get ns k ≡ Some m → slice_get ms (n + k) ≡ Some m)
      → ((k : ℕ) (m : Mover) (f : ℕ) → slice_get ns k ≡ Some m → slice_get fs k ≡ Some f
      → (has_moving_motion m && keep (kept_of m)) ≡ chosen f)
      → sources_at ms (places_from chosen n fs)
      ≡ filter keep (map kept_of (filter has_moving_motion ns))
  chosen-are [] [] n len there are = refl
  chosen-are [] (f ∷ fs) n len there are = absurd (omega arith)
  chosen-are (m ∷ ns) [] n len there are = absurd (omega arith)
  chosen-are (m ∷ ns) (f ∷ fs) n len there are =
      let here : slice_get ms n ≡ Some m = ap (slice_get ms) (omega arith) ∙ there 0 m refl in
      let rest = chosen-are ns fs (n + 1) (omega arith)
      (λ k t at. ap (slice_get ms) (omega arith) ∙ there (suc k) t at)
      (λ k t g at also. are (suc k) t g at also) in
      ap (λ (d : Bool). sources_at ms (cond d (n ∷ places_from chosen (n + 1) fs)
      (places_from chosen (n + 1) fs))) (sym (are 0 m f refl refl))
      ∙ by (has_moving_motion m) (keep (kept_of m)) refl here rest
    where
      by : (b c : Bool) → keep (kept_of m) ≡ c → slice_get ms n ≡ Some m
          → sources_at ms (places_from chosen (n + 1) fs)
          ≡ filter keep (map kept_of (filter has_moving_motion ns))
          → sources_at ms (cond (b && c) (n ∷ places_from chosen (n + 1) fs)
          (places_from chosen (n + 1) fs))
          ≡ filter keep (map kept_of (cond b (m ∷ filter has_moving_motion ns)
          (filter has_moving_motion ns)))
      by true true is here rest =
          ap (λ (o : Option Mover). cons_option (option_map kept_of o)
          (sources_at ms (places_from chosen (n + 1) fs))) here
          ∙ ap (λ (l : List KeptSource). kept_of m ∷ l) rest
          ∙ sym (ap (λ (b : Bool). cond b
          (kept_of m ∷ filter keep (map kept_of (filter has_moving_motion ns)))
          (filter keep (map kept_of (filter has_moving_motion ns)))) is)
      by true false is here rest =
          rest ∙ sym (ap (λ (b : Bool). cond b
          (kept_of m ∷ filter keep (map kept_of (filter has_moving_motion ns)))
          (filter keep (map kept_of (filter has_moving_motion ns)))) is)
      by false c is here rest = rest

module _ (p : Premises) (plan : Plan) (is : IsPlanOf p plan) where
  -- a source of the part of one that moves moves, too
  part-moves : (j k : ℕ) (m n : Mover) → slice_get plan.movers.items j ≡ Some m
      → slice_get plan.movers.items k ≡ Some n → has_moving_motion m ≡ true
      → slice_index plan.parts.firsts.items k ≡ slice_index plan.parts.firsts.items j
      → has_moving_motion n ≡ true
  part-moves j k m n left right moving same = elim (cases_Bool (has_moving_motion n)) [
    | inl also ↦ also
    | inr still ↦
        let ms = plan.movers.items in
        let x = placing_in plan in
        let f = first-there p plan is j (slice_get_within ms j m left) in
        let one : f.0 ≡ n = some_is f.0 n (sym f.1
        ∙ ap (slice_get ms) (sym same ∙ is.still k n right still) ∙ right) in
        let named : Moves p (mover_name m) = any-moves j m left moving in
        let first : Moves p (x.first (mover_name m)) =
        (is.placed.first (mover_name m) named).node in
        let name : x.first (mover_name m) ≡ mover_name n =
        first-is p plan is j m f.0 left f.1 ∙ ap mover_name one in
        let found = any-found (λ (s : KeptSource). bytes_eq (mover_name n) s.head.name && moves p s)
        p.archive.sources (subst (Moves p) name first) in
        let both =
        and_parts (bytes_eq (mover_name n) found.0.head.name) (moves p found.0) found.2 in
        let at = has-numbered p.archive.sources found.0 found.1 in
        let source : kept_of n ≡ found.0 =
        one-named p is.sound n.number at.0 (kept_of n) found.0 (is.movers.each k n right).at at.1
        ((bytes_eq-Decides (mover_name n) found.0.head.name).0 both.0) in
        mover-moving p is.sound ms is.movers k n right ∙ ap (moves p) source ∙ both.1
  ]
    where
      any-moves : (i : ℕ) (t : Mover) → slice_get plan.movers.items i ≡ Some t
          → has_moving_motion t ≡ true → Moves p (mover_name t)
      any-moves i t at is_it = mover-moves p (kept_of t)
          (mover-has p is.sound plan.movers.items is.movers i t at)
          (sym (mover-moving p is.sound plan.movers.items is.movers i t at) ∙ is_it)

  pub part-are : (j : ℕ) (m : Mover) → slice_get plan.movers.items j ≡ Some m
      → has_moving_motion m ≡ true
      → sources_at plan.movers.items
      (members_at plan.parts.firsts.items (slice_index plan.parts.firsts.items j))
      ≡ part_of (placing_in plan) p (kept_of m)
  part-are j m at moving =
      let ms = plan.movers.items in
      let firsts = plan.parts.firsts.items in
      let x = placing_in plan in
      chosen-are ms (is_beside x (kept_of m)) (λ f. f == slice_index firsts j) ms firsts 0
      (sym is.parts.firsts) (λ k t there. ap (slice_get ms) (omega arith) ∙ there)
      (λ k t f there also.
      let first : slice_index firsts k ≡ f = get_or_from_slice_get firsts k f 0 also in
      let beside : is_beside x (kept_of m) (kept_of t) ≡ (f == slice_index firsts j) =
      beside-is p plan is j k m t at there
      ∙ ap (λ (a : ℕ). a == slice_index firsts j) first in
      ap (λ (b : Bool). has_moving_motion t && b) beside
      ∙ and-chosen (has_moving_motion t) (f == slice_index firsts j) (λ same.
      part-moves j k m t at there moving
      (first ∙ eqb-true f (slice_index firsts j) same)))
      ∙ ap (filter (is_beside x (kept_of m))) (sym (moving-are p is.sound ms is.movers))
    where
      and-chosen : (a b : Bool) → (b ≡ true → a ≡ true) → (a && b) ≡ b
      and-chosen true b h = refl
      and-chosen false true h = absurd (false≢true (h refl))
      and-chosen false false h = refl

  -- ---- 2. the comments before a source

  pub before-are : (j : ℕ) (m : Mover) (before : Option ℕ)
      → slice_get plan.movers.items j ≡ Some m → has_moving_motion m ≡ true
      → ((n : ℕ) → before ≡ Some n → n < length plan.movers.items) → (members : List ℕ)
      → members ≡ members_at plan.parts.firsts.items (slice_index plan.parts.firsts.items j)
      → before_lines (is_step (option_map (last_at plan.parts) before)
      (slice_index plan.parts.steps.items j)) (slice_index plan.parts.steps.items j)
      (is_part (option_map (last_at plan.parts) before)
      (slice_index plan.parts.firsts.items j)) (sources_at plan.movers.items members)
      ≡ lines_before (placing_in plan) p (source_if plan.movers.items before) (kept_of m)
  before-are j m before at moving low members are =
      let x = placing_in plan in
      let steps = step-at p plan is j m at in
      let sources : sources_at plan.movers.items members ≡ part_of x p (kept_of m) =
      ap (sources_at plan.movers.items) are ∙ part-are j m at moving in
      ap (λ (l : List KeptSource). before_lines (is_step (option_map (last_at plan.parts) before)
      (slice_index plan.parts.steps.items j)) (slice_index plan.parts.steps.items j)
      (is_part (option_map (last_at plan.parts) before)
      (slice_index plan.parts.firsts.items j)) l) sources
      ∙ by before low
      ∙ ap (λ (n : ℕ). before_lines (is_same_step x (source_if plan.movers.items before)
      (kept_of m)) n (is_same_part x (source_if plan.movers.items before) (kept_of m))
      (part_of x p (kept_of m))) (sym steps)
    where
      by : (o : Option ℕ) → ((n : ℕ) → o ≡ Some n → n < length plan.movers.items)
          → before_lines (is_step (option_map (last_at plan.parts) o)
          (slice_index plan.parts.steps.items j)) (slice_index plan.parts.steps.items j)
          (is_part (option_map (last_at plan.parts) o) (slice_index plan.parts.firsts.items j))
          (part_of (placing_in plan) p (kept_of m))
          ≡ before_lines
          (is_same_step (placing_in plan) (source_if plan.movers.items o) (kept_of m))
          (slice_index plan.parts.steps.items j)
          (is_same_part (placing_in plan) (source_if plan.movers.items o) (kept_of m))
          (part_of (placing_in plan) p (kept_of m))
      by None within = refl
      by (Some n) within =
          let ms = plan.movers.items in
          let x = placing_in plan in
          let t = at-below ms n (within n refl) in
          let there : source_if ms (Some n) ≡ Some (kept_of t.0) = ap (option_map kept_of) t.1 in
          let step : (slice_index plan.parts.steps.items n == slice_index plan.parts.steps.items j)
          ≡ (x.step (mover_name t.0) == x.step (mover_name m)) =
          ap (λ (a : ℕ). a == slice_index plan.parts.steps.items j)
          (sym (step-at p plan is n t.0 t.1))
          ∙ ap (λ (a : ℕ). x.step (mover_name t.0) == a) (sym (step-at p plan is j m at)) in
          let part = sym (beside-is p plan is j n m t.0 at t.1) in
          ap₂ (λ (b c : Bool). before_lines b (slice_index plan.parts.steps.items j) c
          (part_of x p (kept_of m))) step part
          ∙ ap (λ (o : Option KeptSource). before_lines (is_same_step x o (kept_of m))
          (slice_index plan.parts.steps.items j) (is_same_part x o (kept_of m))
          (part_of x p (kept_of m))) (sym there)

-- ---- 3. the names of a part

-- names with a space after each, and a text after them
pub names-spaced : (names : List (List ℕ)) (text : List ℕ) → 0 < length names
    → flat_map (λ (n : List ℕ). n ++ 32 ∷ []) names ++ text ≡ spaced names ++ 32 ∷ text
names-spaced [] text some = absurd (omega arith)
names-spaced (name ∷ names) text some = first name names
  where
    behind : (ns : List (List ℕ)) → 32 ∷ (flat_map (λ (n : List ℕ). n ++ 32 ∷ []) ns ++ text)
        ≡ flat_map (λ (n : List ℕ). codes " " ++ n) ns ++ 32 ∷ text
    behind [] = refl
    behind (n ∷ ns) =
        ap (λ (l : List ℕ). 32 ∷ l) (append_assoc (n ++ 32 ∷ [])
        (flat_map (λ (m : List ℕ). m ++ 32 ∷ []) ns) text
        ∙ append_assoc n (32 ∷ []) (flat_map (λ (m : List ℕ). m ++ 32 ∷ []) ns ++ text)
        ∙ ap (λ (l : List ℕ). n ++ l) (behind ns))
        ∙ sym (append_assoc (32 ∷ n) (flat_map (λ (m : List ℕ). codes " " ++ m) ns) (32 ∷ text))

    first : (n : List ℕ) (ns : List (List ℕ))
        → flat_map (λ (m : List ℕ). m ++ 32 ∷ []) (n ∷ ns) ++ text ≡ spaced (n ∷ ns) ++ 32 ∷ text
    first n ns =
        append_assoc (n ++ 32 ∷ []) (flat_map (λ (m : List ℕ). m ++ 32 ∷ []) ns) text
        ∙ append_assoc n (32 ∷ []) (flat_map (λ (m : List ℕ). m ++ 32 ∷ []) ns ++ text)
        ∙ ap (λ (l : List ℕ). n ++ l) (behind ns)
        ∙ sym (append_assoc n (flat_map (λ (m : List ℕ). codes " " ++ m) ns) (32 ∷ text))

-- the names of sources, with a space after each
named-flat : (ss : List KeptSource) → flat_map (λ (s : KeptSource). s.head.name ++ 32 ∷ []) ss
    ≡ flat_map (λ (n : List ℕ). n ++ 32 ∷ []) (map name_of ss)
named-flat [] = refl
named-flat (s ∷ ss) = ap (λ (l : List ℕ). (s.head.name ++ 32 ∷ []) ++ l) (named-flat ss)

-- the line of a part
pub part-text : (ss : List KeptSource) → 1 < length ss
    → codes "# " ++ (flat_map (λ (s : KeptSource). s.head.name ++ 32 ∷ []) ss
    ++ (codes "build on one another" ++ 10 ∷ [])) ≡ text_of (part_lines ss)
part-text ss some =
    ap (λ (l : List ℕ). codes "# " ++ (l ++ (codes "build on one another" ++ 10 ∷ [])))
    (named-flat ss)
    ∙ ap (λ (l : List ℕ). codes "# " ++ l) (names-spaced (map name_of ss)
    (codes "build on one another" ++ 10 ∷ []) (omega (arith, length-map ss name_of)))
    ∙ sym (ap (λ (b : Bool). text_of (cond b (part_line (map name_of ss) ∷ []) []))
    (lt-ltb 1 (length ss) some)
    ∙ append-nil (part_line (map name_of ss) ++ 10 ∷ [])
    ∙ append_assoc (codes "# ") (spaced (map name_of ss) ++ codes " build on one another") (10 ∷ [])
    ∙ ap (λ (l : List ℕ). codes "# " ++ l) (append_assoc (spaced (map name_of ss))
    (codes " build on one another") (10 ∷ [])))

pub part-none : (ss : List KeptSource) → length ss ≤ 1 → text_of (part_lines ss) ≡ []
part-none ss few =
    ap (λ (b : Bool). text_of (cond b (part_line (map name_of ss) ∷ []) []))
    (le-ltb 1 (length ss) few)

-- all numbers have a source
pub sources-length : (ms : List Mover) (ns : List ℕ) → All (λ n. n < length ms) ns
    → length (sources_at ms ns) ≡ length ns
sources-length ms [] all = refl
sources-length ms (n ∷ ns) all =
    let m = at-below ms n (All-head (λ k. k < length ms) n ns all) in
    ap (λ (o : Option Mover). length (cons_option (option_map kept_of o) (sources_at ms ns))) m.1
    ∙ ap suc (sources-length ms ns (All-tail (λ k. k < length ms) n ns all))
