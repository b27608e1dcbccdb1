-- The lines of a plan, with those of one source, one part or one position more.
use Rattle.std.proofs.Common.{◌≡◌, ℕ, ◌+◌, ◌<◌, ◌≤◌, ◌==◌, ◌++◌, ◌∷◌, [], Bool, true, false, cond}
use Rattle.std.proofs.Common.{List, Ok, Result, codes, map}
use Rattle.std.proofs.Common.{get_or, length, take, Option, Some, None, refl, sym, ap, subst}
use Rattle.std.proofs.Common.{◌∙◌, arith, append_assoc, append-nil}
use Rattle.std.specs.Prelude.{option_map, slice_get, slice_index}
use Rattle.std.specs.Global.{Global}
use Rattle.std.specs.List.{All, AllZip, cons_option, flat_map, range_with_len}
use Rattle.std.specs.List.Sorted.{IsPermutation, IsSorted}
use Rattle.std.specs.Option.{option_map_or}
use Rattle.std.specs.String.{string_bytes}
use Rattle.std.specs.declared.alloc.AllocError.{AllocError}
use Rattle.std.specs.declared.string.String.{String}
use Rattle.std.proofs.lemmas.Bool.{false≢true}
use Rattle.std.proofs.lemmas.List.Concat.{flat_map-append}
use Rattle.std.proofs.lemmas.List.Elements.{All-get_or, Contains-get_or, filter_map-append}
use Rattle.std.proofs.lemmas.Option.{slice_get_within}
use Rattle.td_text.specs.Lines.{text_of}
use Rattle.td_indices.specs.Sources.{KeptSource}
use Rattle.td_waves.specs.Graph.{bases_of}
use Rattle.td_plan.specs.declared.due.Motion.{Motion}
use Rattle.td_plan.specs.declared.due.Motion.TheVariants.{Due, Pending, Still}
use Rattle.td_plan.specs.declared.movers.Mover.{Mover}
use Rattle.td_plan.specs.declared.plan.Last.{Last}
use Rattle.td_plan.specs.declared.plan.Plan.{Plan}
use Rattle.td_plan.specs.Lines.{Words, step_line}
use Rattle.td_plan.specs.Plan.{lines_before, part_lines, source_lines}
use Rattle.td_plan.specs.Premises.{Premises}
use Rattle.td_plan.specs.inner.Movers.{has_due_motion, has_moving_motion, is_due_motion}
use Rattle.td_plan.specs.inner.Movers.{is_moving_motion}
use Rattle.td_plan.specs.inner.Ordering.{AreMembers, due_positions, members_at, position_cmp}
use Rattle.td_plan.specs.inner.Ordering.{position_of}
use Rattle.td_plan.specs.inner.Planned.{ArePositions, AreTexts, IsPlanOf, IsTextAt, before_lines}
use Rattle.td_plan.specs.inner.Planned.{is_part, is_step}
use Rattle.td_plan.specs.inner.Planned.{last_at, placing_in, source_if, sources_at}
use Rattle.td_plan.specs.inner.Waiters.{kept_of}
use Rattle.td_plan.proofs.ByNumber.{made-for, made-len}
use Rattle.td_plan.proofs.Chosen.{any-again, any-found}
use Rattle.td_plan.proofs.DuePositions.{place-has, position-due}
use Rattle.td_plan.proofs.PartSources.{before-are, part-none, part-text, sources-length}
use Rattle.td_plan.proofs.SourcePlaces.{text-more}
use Rattle.td_plan.proofs.SourceTexts.{lines-then, taken}

-- ---- 1. the sources with some numbers

-- a name with a space behind it
abbrev pub named : KeptSource → List ℕ
named s = s.head.name ++ 32 ∷ []

sources-next : (ms : List Mover) (ns : List ℕ) (i n : ℕ) → i < length ns → n ≡ get_or ns i n
    → sources_at ms (take (i + 1) ns)
    ≡ sources_at ms (take i ns) ++ cons_option (option_map kept_of (slice_get ms n)) []
sources-next ms ns i n low is =
    ap (sources_at ms) (taken ns i n low is)
    ∙ filter_map-append (λ (k : ℕ). option_map kept_of (slice_get ms k)) (take i ns) (n ∷ [])

pub name-more : (ms : List Mover) (ns : List ℕ) (i n : ℕ) (m : Mover) (start old new : List ℕ)
    → i < length ns → n ≡ get_or ns i n → slice_get ms n ≡ Some m
    → old ≡ start ++ flat_map named (sources_at ms (take i ns))
    → new ≡ (old ++ m.source.name.now) ++ 32 ∷ []
    → new ≡ start ++ flat_map named (sources_at ms (take (i + 1) ns))
name-more ms ns i n m start old new low is at was more =
    let done = sources_at ms (take i ns) in
    text-more start old new (flat_map named done) (m.source.name.now ++ 32 ∷ [])
    (flat_map named (sources_at ms (take (i + 1) ns))) was
    (more ∙ append_assoc old m.source.name.now (32 ∷ []))
    (ap (flat_map named) (sources-next ms ns i n low is
    ∙ ap (λ (o : Option Mover). done ++ cons_option (option_map kept_of o) []) at)
    ∙ flat_map-append named done (kept_of m ∷ [])
    ∙ ap (λ (l : List ℕ). flat_map named done ++ l) (append-nil (named (kept_of m))))

-- where no source has the number
pub name-none : (ms : List Mover) (ns : List ℕ) (i n : ℕ) (start old new : List ℕ)
    → i < length ns → n ≡ get_or ns i n → slice_get ms n ≡ None
    → old ≡ start ++ flat_map named (sources_at ms (take i ns)) → new ≡ old
    → new ≡ start ++ flat_map named (sources_at ms (take (i + 1) ns))
name-none ms ns i n start old new low is at was same =
    let done = sources_at ms (take i ns) in
    same ∙ was ∙ ap (λ (l : List KeptSource). start ++ flat_map named l)
    (sym (sources-next ms ns i n low is
    ∙ ap (λ (o : Option Mover). done ++ cons_option (option_map kept_of o) []) at
    ∙ append-nil done))

-- ---- 2. comments

-- none before a part of one
pub part-nothing : (ms : List Mover) (members : List ℕ) (start : List ℕ) → length members < 2
    → All (λ n. n < length ms) members
    → start ≡ start ++ text_of (part_lines (sources_at ms members))
part-nothing ms members start few all =
    sym (ap (λ (t : List ℕ). start ++ t) (part-none (sources_at ms members)
    (omega (arith, sources-length ms members all))) ∙ append-nil start)

-- that before a part of several
pub part-whole : (ms : List Mover) (members : List ℕ) (start front names end : List ℕ)
    → 2 ≤ length members → All (λ n. n < length ms) members → front ≡ start ++ codes "# "
    → names ≡ front ++ flat_map named (sources_at ms members)
    → end ≡ names ++ (codes "build on one another" ++ 10 ∷ [])
    → end ≡ start ++ text_of (part_lines (sources_at ms members))
part-whole ms members start front names end several all first more last =
    let ss = sources_at ms members in
    let behind = codes "build on one another" ++ 10 ∷ [] in
    last ∙ ap (λ (t : List ℕ). t ++ behind) (more
    ∙ ap (λ (t : List ℕ). t ++ flat_map named ss) first)
    ∙ append_assoc (start ++ codes "# ") (flat_map named ss) behind
    ∙ append_assoc start (codes "# ") (flat_map named ss ++ behind)
    ∙ ap (λ (t : List ℕ). start ++ t)
    (part-text ss (omega (arith, sources-length ms members all)))

-- none where the last line was of the step
pub step-same : (same : Bool) (step : ℕ) (start : List ℕ) → same ≡ true
    → start ≡ start ++ text_of (cond same [] (step_line step ∷ []))
step-same same step start is =
    sym (ap (λ (b : Bool). start ++ text_of (cond b [] (step_line step ∷ []))) is
    ∙ append-nil start)

pub step-new : (same : Bool) (step : ℕ) (start end : List ℕ) → same ≡ false
    → end ≡ start ++ (step_line step ++ 10 ∷ [])
    → end ≡ start ++ text_of (cond same [] (step_line step ∷ []))
step-new same step start end is more =
    more ∙ ap (λ (t : List ℕ). start ++ t) (sym (append-nil (step_line step ++ 10 ∷ [])))
    ∙ sym (ap (λ (b : Bool). start ++ text_of (cond b [] (step_line step ∷ []))) is)

-- the same before a source, by its part
pub before-same : (same_step same_part : Bool) (step : ℕ) (ss : List KeptSource)
    (start end : List ℕ) → same_part ≡ true
    → end ≡ start ++ text_of (cond same_step [] (step_line step ∷ []))
    → end ≡ start ++ text_of (before_lines same_step step same_part ss)
before-same same_step same_part step ss start end is first =
    let stepped : List (List ℕ) = cond same_step [] (step_line step ∷ []) in
    first ∙ ap (λ (l : List (List ℕ)). start ++ text_of l)
    (sym (ap (λ (b : Bool). stepped ++ cond b [] (part_lines ss)) is ∙ append-nil stepped))

pub before-new : (same_step same_part : Bool) (step : ℕ) (ss : List KeptSource)
    (start mid end : List ℕ) → same_part ≡ false
    → mid ≡ start ++ text_of (cond same_step [] (step_line step ∷ []))
    → end ≡ mid ++ text_of (part_lines ss)
    → end ≡ start ++ text_of (before_lines same_step step same_part ss)
before-new same_step same_part step ss start mid end is first more =
    let stepped : List (List ℕ) = cond same_step [] (step_line step ∷ []) in
    lines-then start mid end stepped (part_lines ss) first more
    ∙ ap (λ (b : Bool). start ++ text_of (stepped ++ cond b [] (part_lines ss))) (sym is)

-- ---- 3. positions

-- a source that moves
pub moving-at : (o : Option Mover) → option_map_or has_moving_motion o false ≡ true
    → (m : Mover) × (o ≡ Some m) × (has_moving_motion m ≡ true)
moving-at None h = absurd (false≢true h)
moving-at (Some m) h = (m, refl, h)

-- what is due moves
moving-due : (x : Motion) → is_due_motion x ≡ true → is_moving_motion x ≡ true
moving-due Still h = absurd (false≢true h)
moving-due Due h = refl
moving-due (Pending n) h = refl

pub due-moving : (m : Mover) → has_due_motion m ≡ true → has_moving_motion m ≡ true
due-moving m due =
    let found = any-found is_due_motion m.motions.at.items due in
    any-again is_moving_motion m.motions.at.items found.0 found.1 (moving-due found.0 found.2)

-- the positions of a plan are those of sources that move
pub positions-are : (p : Premises) (plan : Plan) → IsPlanOf p plan → (positions : List (ℕ × ℕ × ℕ))
    → IsPermutation (due_positions plan.parts plan.movers.items) positions
    → IsSorted position_cmp positions → ArePositions plan.movers.items plan.parts positions
positions-are p plan is positions all sorted = record {
  is = λ k d low.
      (position-due p plan is positions all sorted (get_or positions k d)
      (Contains-get_or positions k d low)).3;
  moves = λ k d low.
      let m = position-due p plan is positions all sorted (get_or positions k d)
      (Contains-get_or positions k d low) in
      ap (λ (o : Option Mover). option_map_or has_moving_motion o false) m.1
      ∙ due-moving m.0 m.2;
}

module _ (p : Premises) (plan : Plan) (is : IsPlanOf p plan) where
  -- the sources of a part have numbers
  members-low : (first : ℕ)
      → All (λ n. n < length plan.movers.items) (members_at plan.parts.firsts.items first)
  members-low first = λ k d low.
      let firsts = plan.parts.firsts.items in
      let has = Contains-get_or (members_at firsts first) k d low in
      let place = place-has (λ f. f == first) 0 firsts
      (get_or (members_at firsts first) k d) has in
      let number = place.2 in
      omega (
        arith,
        is.parts.firsts,
        number,
        slice_get_within firsts place.0 place.1 place.3,
      )

  pub first-low : (k : ℕ) (m : Mover) → slice_get plan.movers.items k ≡ Some m
      → slice_index plan.parts.firsts.items k < length plan.parts.firsts.items
  first-low k m at =
      let low : k < length plan.parts.firsts.items =
      omega (arith, is.parts.firsts, slice_get_within plan.movers.items k m at) in
      omega (
        arith,
        is.parts.firsts,
        All-get_or (λ n. n < length plan.movers.items) plan.parts.firsts.items k 0 low is.firsts,
      )

  -- the lines of a source, and the comments before them
  pub position-lines : (words : Words) (k : ℕ) (m : Mover) (before : Option ℕ)
      (members : List (List ℕ)) (mine : List ℕ) (position : ℕ × ℕ × ℕ) (last : Option Last)
      (start mid end : List ℕ) → AreMembers plan.parts.firsts.items members
      → slice_get plan.movers.items k ≡ Some m → has_moving_motion m ≡ true
      → ((n : ℕ) → before ≡ Some n → n < length plan.movers.items)
      → position ≡ position_of plan.parts k → last ≡ option_map (last_at plan.parts) before
      → mine ≡ bases_of members position.1
      → (All (λ n. n < length plan.movers.items) mine → mid ≡ start ++ text_of
      (before_lines (is_step last position.0) position.0 (is_part last position.1)
      (sources_at plan.movers.items mine)))
      → end ≡ mid ++ text_of (source_lines words (placing_in plan) p (kept_of m))
      → end ≡ start ++ text_of (
      lines_before (placing_in plan) p (source_if plan.movers.items before) (kept_of m)
      ++ source_lines words (placing_in plan) p (kept_of m))
  position-lines words k m before members mine position last start mid end all at moving low placed
      was its first more =
      let ms = plan.movers.items in
      let steps = plan.parts.steps.items in
      let firsts = plan.parts.firsts.items in
      let step : position.0 ≡ slice_index steps k = ap (λ (r : ℕ × ℕ × ℕ). r.0) placed in
      let part : position.1 ≡ slice_index firsts k = ap (λ (r : ℕ × ℕ × ℕ). r.1) placed in
      let are : mine ≡ members_at firsts (slice_index firsts k) =
      its ∙ ap (bases_of members) part ∙ all.at (slice_index firsts k) (first-low k m at) in
      let within : All (λ n. n < length ms) mine =
      subst (All (λ n. n < length ms)) (sym are) (members-low (slice_index firsts k)) in
      let lines : before_lines (is_step last position.0) position.0 (is_part last position.1)
      (sources_at ms mine)
      ≡ lines_before (placing_in plan) p (source_if ms before) (kept_of m) =
      ap (λ (o : Option Last). before_lines (is_step o position.0) position.0
      (is_part o position.1) (sources_at ms mine)) was
      ∙ ap (λ (a : ℕ). before_lines (is_step (option_map (last_at plan.parts) before) a) a
      (is_part (option_map (last_at plan.parts) before) position.1) (sources_at ms mine)) step
      ∙ ap (λ (b : ℕ). before_lines (is_step (option_map (last_at plan.parts) before)
      (slice_index steps k)) (slice_index steps k)
      (is_part (option_map (last_at plan.parts) before) b) (sources_at ms mine)) part
      ∙ before-are p plan is k m before at moving low mine are in
      lines-then start mid end
      (lines_before (placing_in plan) p (source_if ms before) (kept_of m))
      (source_lines words (placing_in plan) p (kept_of m))
      (first within ∙ ap (λ (l : List (List ℕ)). start ++ text_of l) lines) more

-- ---- 4. comments on rows

-- no line
pub nothing-then : (start : List ℕ) (lines : List (List ℕ)) → lines ≡ []
    → start ≡ start ++ text_of lines
nothing-then start lines none =
    sym (ap (λ (l : List (List ℕ)). start ++ text_of l) none ∙ append-nil start)

-- one line
pub line-only : (start end line : List ℕ) (lines : List (List ℕ)) → lines ≡ line ∷ []
    → end ≡ start ++ (line ++ 10 ∷ []) → end ≡ start ++ text_of lines
line-only start end line lines is more =
    more ∙ ap (λ (t : List ℕ). start ++ t) (sym (append-nil (line ++ 10 ∷ [])))
    ∙ sym (ap (λ (l : List (List ℕ)). start ++ text_of l) is)

-- ---- 5. the texts of the sources

-- the text of each affected source
pub texts-made : (w : Words) (plan : Plan) (P : ℕ → Result (String Global) AllocError → Type 0)
    → ((n : ℕ) (text : String Global) → P n (Ok text) → IsTextAt w plan n (string_bytes text))
    → (ns : List ℕ) (texts : List (String Global))
    → ns ≡ range_with_len 0 (length plan.movers.items) → AllZip P ns (map Ok texts)
    → AreTexts w plan texts
texts-made w plan P so ns texts is made =
    let count = length plan.movers.items in
    let whole = subst (λ (l : List ℕ). AllZip P l (map Ok texts)) is made in
    record {
      len = made-len P 0 count texts whole;
      at = λ k text there. so k text (made-for P count texts whole k text there);
    }
