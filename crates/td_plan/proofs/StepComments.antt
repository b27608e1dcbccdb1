-- The comments on steps and parts are among the lines of a plan.
use Rattle.std.proofs.Common.{◌≡◌, ◌⊎◌, ℕ, ◌<◌, Bool, false, cond, List, [], ◌∷◌, ◌++◌}
use Rattle.std.proofs.Common.{length, Option, Some, None, map, sym, ap, subst, ◌∙◌, inl, inr}
use Rattle.std.specs.Prelude.{filter}
use Rattle.std.specs.List.{Contains}
use Rattle.std.specs.Str.{bytes_eq}
use Rattle.std.proofs.lemmas.Bool.{cases_Bool, lt-ltb}
use Rattle.std.proofs.lemmas.Bool.Decides.{eqb_tells}
use Rattle.std.proofs.lemmas.List.Elements.{Contains-append_left, Contains-append_right}
use Rattle.std.proofs.lemmas.Slice.Eq.{bytes_eq-Decides}
use Rattle.td_indices.specs.Sources.{KeptSource}
use Rattle.td_indices.proofs.OfferLaws.{has_cases, has_first}
use Rattle.td_plan.specs.CommentLaws.{PartLinesAreThere, StepLinesAreThere}
use Rattle.td_plan.specs.Lines.{Words, part_line, step_line}
use Rattle.td_plan.specs.Placing.{Placing}
use Rattle.td_plan.specs.Plan.{due_sources, is_same_part, is_same_step, lines_before}
use Rattle.td_plan.specs.Plan.{lines_from, part_lines, part_of, source_lines}
use Rattle.td_plan.specs.Premises.{Premises, name_of}
use Rattle.td_plan.specs.Waits.{moving_sources}
use Rattle.td_plan.proofs.Existing.{none_has}
use Rattle.td_plan.proofs.WaitLines.{due-has, lines-has}

-- ---- 1. a comment before the first source of several

-- the last source, if there is one, has the same of something
abbrev IsLast : {V : Type 0} → (KeptSource → V) → Option KeptSource → KeptSource → Type 0
IsLast f None s = ⊥
IsLast f (Some t) s = f t ≡ f s

-- the same of one that has the same
last-same : {V : Type 0} (f : KeptSource → V) (last : Option KeptSource) (u s : KeptSource)
    → f u ≡ f s → IsLast f last u → IsLast f last s
last-same f None u s same none = none
last-same f (Some t) u s same at = at ∙ same

-- a comment that comes before a source, unless the last one has the same of something, is among
-- the lines, unless the last one has it
comment-has : {V : Type 0} (words : Words) (p : Premises) (x : Placing) (f : KeptSource → V)
    (line : V → List ℕ) (Told : KeptSource → Type 0)
    → ((u s : KeptSource) → f u ≡ f s → Told s → Told u)
    → ((last : Option KeptSource) (s : KeptSource) → Told s
    → IsLast f last s ⊎ Contains (lines_before x p last s) (line (f s)))
    → (last : Option KeptSource) (sources : List KeptSource) (s : KeptSource)
    → Contains sources s → Told s
    → IsLast f last s ⊎ Contains (lines_from words x p last sources) (line (f s))
comment-has words p x f line Told alike before last [] s has told = absurd (none_has s has)
comment-has {V} words p x f line Told alike before last (u ∷ sources) s has told =
    elim (has_cases u sources s has) [
      | inl one ↦ own (ap f one)
      | inr more ↦
          later (comment-has words p x f line Told alike before (Some u) sources s more told)
    ]
  where
    rest : List (List ℕ)
    rest = source_lines words x p u ++ lines_from words x p (Some u) sources

    own : f u ≡ f s
        → IsLast f last s ⊎ Contains (lines_from words x p last (u ∷ sources)) (line (f s))
    own same = elim (before last u (alike u s same told)) [
      | inl at ↦ inl (last-same f last u s same at)
      | inr there ↦ inr (subst (λ (v : V). Contains (lines_before x p last u ++ rest) (line v))
          same (Contains-append_left (lines_before x p last u) rest (line (f u)) there))
    ]

    later : IsLast f (Some u) s ⊎ Contains (lines_from words x p (Some u) sources) (line (f s))
        → IsLast f last s ⊎ Contains (lines_from words x p last (u ∷ sources)) (line (f s))
    later (inl same) = own same
    later (inr there) = inr (Contains-append_right (lines_before x p last u) rest (line (f s))
        (Contains-append_right (source_lines words x p u)
        (lines_from words x p (Some u) sources) (line (f s)) there))

-- ---- 2. steps

module _ (p : Premises) (x : Placing) where
  abbrev step_of : KeptSource → ℕ
  step_of s = x.step s.head.name

  abbrev step_part : Bool → KeptSource → List (List ℕ)
  step_part b s = cond b [] (step_line (step_of s) ∷ [])

  abbrev part_part : Bool → KeptSource → List (List ℕ)
  part_part b s = cond b [] (part_lines (part_of x p s))

  step-first : (last : Option KeptSource) (s : KeptSource) → Unit {0}
      → IsLast step_of last s ⊎ Contains (lines_before x p last s) (step_line (step_of s))
  step-first None s told =
      inr (has_first (step_line (step_of s)) (part_part false s))
  step-first (Some t) s told = elim (eqb_tells (step_of t) (step_of s)) [
    | inl one ↦ inl one.1
    | inr other ↦ inr (subst (λ (b : Bool). Contains (step_part b s
        ++ part_part (is_same_part x (Some t) s) s) (step_line (step_of s))) (sym other.0)
        (has_first (step_line (step_of s)) (part_part (is_same_part x (Some t) s) s)))
  ]

  -- ---- 3. parts

  -- the sources of the part that has a first source
  abbrev part_with : List ℕ → List KeptSource
  part_with first =
      filter (λ (t : KeptSource). bytes_eq (x.first t.head.name) first) (moving_sources p)

  abbrev first_of : KeptSource → List ℕ
  first_of s = x.first s.head.name

  abbrev IsSeveral : KeptSource → Type 0
  IsSeveral s = 1 < length (part_with (first_of s))

  abbrev line_with : List ℕ → List ℕ
  line_with first = part_line (map name_of (part_with first))

  part-told : (s : KeptSource) → IsSeveral s
      → Contains (part_lines (part_with (first_of s))) (line_with (first_of s))
  part-told s told =
      subst (λ (b : Bool). Contains (cond b (line_with (first_of s) ∷ []) [])
      (line_with (first_of s))) (sym (lt-ltb 1 (length (part_with (first_of s))) told))
      (has_first (line_with (first_of s)) [])

  part-first : (last : Option KeptSource) (s : KeptSource) → IsSeveral s
      → IsLast first_of last s ⊎ Contains (lines_before x p last s) (line_with (first_of s))
  part-first None s told = inr (Contains-append_right (step_part false s) (part_part false s)
      (line_with (first_of s)) (part-told s told))
  part-first (Some t) s told = elim (cases_Bool (bytes_eq (first_of t) (first_of s))) [
    | inl one ↦ inl ((bytes_eq-Decides (first_of t) (first_of s)).0 one)
    | inr other ↦ inr (Contains-append_right (step_part (is_same_step x (Some t) s) s)
        (part_part (is_same_part x (Some t) s) s) (line_with (first_of s))
        (subst (λ (b : Bool). Contains (part_part b s) (line_with (first_of s))) (sym other)
        (part-told s told)))
  ]

-- what is there if no source is the last
not-last : {V : Type 0} (f : KeptSource → V) (s : KeptSource) (There : Type 0)
    → IsLast f None s ⊎ There → There
not-last f s There (inl none) = absurd none
not-last f s There (inr there) = there

pub step_lines_are_there : StepLinesAreThere
step_lines_are_there words p x s has due =
    lines-has words p x (step_line (x.step s.head.name))
    (not-last (step_of p x) s _ (comment-has words p x (step_of p x) step_line (λ u. Unit {0})
    (λ u t same told. tt) (step-first p x) None (due_sources x p) s
    (due-has words p x s has due) tt))

pub part_lines_are_there : PartLinesAreThere
part_lines_are_there words p x s has due several =
    lines-has words p x (part_line (map name_of (part_of x p s)))
    (not-last (first_of p x) s _ (comment-has words p x (first_of p x) (line_with p x)
    (IsSeveral p x)
    (λ u t same told. subst (λ (first : List ℕ). 1 < length (part_with p x first)) (sym same) told)
    (part-first p x) None (due_sources x p) s (due-has words p x s has due) several))
