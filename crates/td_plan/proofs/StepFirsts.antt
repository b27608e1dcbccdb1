-- The first sources of the parts of each step, and the lines of a step by them.
use Rattle.std.proofs.Common.{◌≡◌, ℕ, suc, ◌+◌, ◌-◌, ◌<◌, ◌==◌, ◌&&◌, ◌++◌, ◌∷◌, ◌∙◌, [], Bool}
use Rattle.std.proofs.Common.{List, Some, ap, append-nil, arith, get_or, inl, inr, length, refl}
use Rattle.std.proofs.Common.{slice_get, subst, sym}
use Rattle.std.specs.Prelude.{filter, slice_index, if◌then◌else◌}
use Rattle.std.specs.Global.{Vec}
use Rattle.std.specs.List.{All, Contains, flat_map, range_with_len}
use Rattle.std.proofs.lemmas.Bool.{cases_Bool, cases_lt, eq-eqb}
use Rattle.std.proofs.lemmas.Bool.Decides.{eqb_tells}
use Rattle.std.proofs.lemmas.List.{get_or_past}
use Rattle.std.proofs.lemmas.List.Concat.{flat_map-append}
use Rattle.std.proofs.lemmas.List.Elements.{All-nil, Contains-get_or}
use Rattle.std.proofs.lemmas.Option.{get_or_from_slice_get, slice_get_within}
use Rattle.td_text.specs.Lines.{text_of}
use Rattle.td_text.proofs.Anywhere.{range-more}
use Rattle.td_query.specs.Tracking.{Tracking}
use Rattle.td_waves.specs.Graph.{bases_of, lists}
use Rattle.td_plan.specs.declared.parts.Parts.{Parts}
use Rattle.td_plan.specs.declared.steps.Steps.{Steps}
use Rattle.td_plan.specs.Steps.{step_words}
use Rattle.td_plan.specs.inner.Ordering.{AreMembers, members_at}
use Rattle.td_plan.specs.inner.Planned.{sources_at}
use Rattle.td_plan.specs.inner.Stepping.{AreMembersOf, IsStepsOf, firsts_on, is_first_on}
use Rattle.td_plan.specs.inner.Stepping.{lines_of_step, lines_of_steps, part_lines}
use Rattle.td_plan.proofs.DuePositions.{place-has}
use Rattle.td_plan.proofs.Existing.{has-filter}
use Rattle.td_plan.proofs.OneText.{made-alike}
use Rattle.td_plan.proofs.SourcePlaces.{range-fails, range-passes}
use Rattle.td_plan.proofs.SourceTexts.{text_of-append}
use Rattle.td_plan.proofs.ToldOnce.{place-within}
use Rattle.td_plan.proofs.Turned.{lists-len}

-- ---- 1. the first sources of a step

-- a node that is the first of its part is added at the part's step
pub first-pushed : (parts : Parts) (number first step k : ℕ) (old new : List ℕ)
    → slice_get parts.firsts.items number ≡ Some first
    → slice_get parts.steps.items number ≡ Some step → first ≡ number
    → new ≡ (if step == k then old ++ number ∷ [] else old)
    → new ≡ (if is_first_on parts k number then old ++ number ∷ [] else old)
first-pushed parts number first step k old new at there same more =
    let its : slice_index parts.firsts.items number ≡ number =
    get_or_from_slice_get parts.firsts.items number first 0 at ∙ same in
    let height : slice_index parts.steps.items number ≡ step =
    get_or_from_slice_get parts.steps.items number step 0 there in
    let is : is_first_on parts k number ≡ (step == k) =
    ap (λ (n : ℕ). (n == number) && (slice_index parts.steps.items number == k)) its
    ∙ ap (λ (b : Bool). b && (slice_index parts.steps.items number == k))
    (eq-eqb number number refl)
    ∙ ap (λ (n : ℕ). n == k) height in
    more ∙ ap (λ (b : Bool). if b then old ++ number ∷ [] else old) (sym is)

-- another one isn't
pub first-passed : (parts : Parts) (number first k : ℕ) (old : List ℕ)
    → slice_get parts.firsts.items number ≡ Some first → ¬ (first ≡ number)
    → old ≡ (if is_first_on parts k number then old ++ number ∷ [] else old)
first-passed parts number first k old at other =
    let its : slice_index parts.firsts.items number ≡ first =
    get_or_from_slice_get parts.firsts.items number first 0 at in
    elim (eqb_tells first number) [
      | inl same ↦ absurd (other same.1)
      | inr apart ↦
          sym (ap (λ (n : ℕ). if (n == number) && (slice_index parts.steps.items number == k)
          then old ++ number ∷ [] else old) its
          ∙ ap (λ (b : Bool). if b && (slice_index parts.steps.items number == k)
          then old ++ number ∷ [] else old) apart.0)
    ]

-- the numbers so far that pass a test, and the next one
pub filter-next : (test : ℕ → Bool) (n : ℕ) (old new : List ℕ)
    → new ≡ (if test n then old ++ n ∷ [] else old)
    → old ≡ filter test (range_with_len 0 n) → new ≡ filter test (range_with_len 0 (n + 1))
filter-next test n old new more was = elim (cases_Bool (test n)) [
  | inl is ↦
      more ∙ ap (λ (b : Bool). if b then old ++ n ∷ [] else old) is
      ∙ ap (λ (l : List ℕ). l ++ n ∷ []) was ∙ sym (range-passes test n is)
  | inr other ↦
      more ∙ ap (λ (b : Bool). if b then old ++ n ∷ [] else old) other
      ∙ was ∙ sym (range-fails test n other)
]

-- ---- 2. the lines of a step

-- the first sources of a step are nodes
pub firsts-below : (parts : Parts) (step n : ℕ) → Contains (firsts_on parts step) n
    → n < length parts.firsts.items
firsts-below parts step n has =
    place-within (length parts.firsts.items) n
    (has-filter (is_first_on parts step) (range_with_len 0 (length parts.firsts.items)) n has).0

-- so each has a list of members
pub firsts-listed : (parts : Parts) (members : List (Vec ℕ)) (step : ℕ) (firsts : List ℕ)
    → AreMembers parts.firsts.items (lists members) → firsts ≡ firsts_on parts step
    → All (λ n. n < length members) firsts
firsts-listed parts members step firsts are is =
    let on = firsts_on parts step in
    subst (All (λ n. n < length members)) (sym is) (λ k d low. omega (
      arith,
      firsts-below parts step (get_or on k d) (Contains-get_or on k d low),
      are.len,
      lists-len members,
    ))

-- the lines of a step, by lists that have the members of each part
pub step-lines : (why : Bool) (steps : Steps) (members : List (List ℕ)) (step : ℕ)
    (firsts : List ℕ) → AreMembers steps.parts.firsts.items members
    → firsts ≡ firsts_on steps.parts step
    → lines_of_step why steps members step firsts ≡ lines_of_steps why steps step
step-lines why steps members step firsts are is =
    let on = firsts_on steps.parts step in
    ap (lines_of_step why steps members step) is
    ∙ ap (λ (l : List (List ℕ)). if length on == 0 then [] else step_words step ∷ l)
    (made-alike (λ n. part_lines why steps (sources_at steps.movers.items (bases_of members n)))
    (λ n. part_lines why steps (sources_at steps.movers.items
    (members_at steps.parts.firsts.items n))) on (λ n has.
    ap (λ (l : List ℕ). part_lines why steps (sources_at steps.movers.items l))
    (are.at n (firsts-below steps.parts step n has))))

-- the members of parts are sources
pub members-of : (t : Tracking) (steps : Steps) → IsStepsOf t steps → (members : List (List ℕ))
    → AreMembers steps.parts.firsts.items members → AreMembersOf steps members
members-of t steps is members are first = elim (cases_lt first (length members)) [
  | inl low ↦
      let firsts = steps.parts.firsts.items in
      let its : bases_of members first ≡ members_at firsts first =
      are.at first (omega (arith, low, are.len)) in
      subst (All (λ n. n < length steps.movers.items)) (sym its) (λ k d within.
      let n = get_or (members_at firsts first) k d in
      let place = place-has (λ f. f == first) 0 firsts n
      (Contains-get_or (members_at firsts first) k d within) in
      let number = place.2 in
      omega (
        arith,
        is.parts.firsts,
        number,
        slice_get_within firsts place.0 place.1 place.3,
      ))
  | inr high ↦
      subst (All (λ n. n < length steps.movers.items)) (sym (get_or_past members first [] high))
      (All-nil (λ n. n < length steps.movers.items))
]

-- the lines of the steps from 1 on, with those of one step more
pub steps-lines : (F : ℕ → List (List ℕ)) (n : ℕ) → 0 < n
    → text_of (flat_map F (range_with_len 1 (n + 1 - 1)))
    ≡ text_of (flat_map F (range_with_len 1 (n - 1))) ++ text_of (F n)
steps-lines F n some =
    let count : n + 1 - 1 ≡ suc (n - 1) = omega arith in
    let last : 1 + (n - 1) ≡ n = omega arith in
    let next : range_with_len 1 (n + 1 - 1) ≡ range_with_len 1 (n - 1) ++ n ∷ [] =
    ap (range_with_len 1) count ∙ range-more 1 (n - 1)
    ∙ ap (λ (k : ℕ). range_with_len 1 (n - 1) ++ k ∷ []) last in
    ap (λ (l : List ℕ). text_of (flat_map F l)) next
    ∙ ap text_of (flat_map-append F (range_with_len 1 (n - 1)) (n ∷ [])
    ∙ ap (λ (l : List (List ℕ)). flat_map F (range_with_len 1 (n - 1)) ++ l) (append-nil (F n)))
    ∙ text_of-append (flat_map F (range_with_len 1 (n - 1))) (F n)
