-- The affected sources by steps, or by levels, are one text.
use Rattle.std.proofs.Common.{◌≡◌, ℕ, zero, suc, ◌+◌, ◌-◌, ◌<◌, ◌≤◌, ◌==◌, ◌&&◌, ◌++◌, ◌∷◌, ◌∙◌}
use Rattle.std.proofs.Common.{[], Bool, false, List, Option, ap, append-nil, arith, cond, inl, inr}
use Rattle.std.proofs.Common.{length, refl, sym}
use Rattle.std.specs.Prelude.{filter}
use Rattle.std.specs.List.{Contains, flat_map, range_with_len}
use Rattle.std.specs.Str.{bytes_eq}
use Rattle.std.proofs.lemmas.Bool.{and_parts, cases_Bool, cases_lt, eqb-true}
use Rattle.std.proofs.lemmas.List.Concat.{flat_map-append}
use Rattle.std.proofs.lemmas.Slice.Eq.{bytes_eq-Decides}
use Rattle.td_text.specs.Lines.{text_of}
use Rattle.td_text.proofs.Anywhere.{range-more}
use Rattle.td_indices.specs.Archive.{Contents}
use Rattle.td_indices.specs.Sources.{KeptSource}
use Rattle.td_indices.proofs.OfferLaws.{has_first, has_more}
use Rattle.td_query.specs.Statuses.{affected_names, is_affected}
use Rattle.td_query.specs.Tracking.{Tracking}
use Rattle.td_waves.specs.declared.level.Level.{Level}
use Rattle.td_report.specs.Report.{levels}
use Rattle.td_report.specs.Transition.{IsAffected}
use Rattle.td_report.proofs.OneText.{same_depth, same_levels}
use Rattle.td_plan.specs.Placing.{Placing}
use Rattle.td_plan.specs.Plan.{is_beside, part_among}
use Rattle.td_plan.specs.Premises.{name_of}
use Rattle.td_plan.specs.StepLaws.{StepsAreOneText, WhysAreOneText}
use Rattle.td_plan.specs.Steps.{affected_sources, begins_part, level_lines, step_lines, step_words}
use Rattle.td_plan.specs.Steps.{under_head}
use Rattle.td_plan.specs.Waits.{is_source_before}
use Rattle.td_plan.proofs.Chosen.{any-again, in_order-found, map-again}
use Rattle.td_plan.proofs.Existing.{has-filter}
use Rattle.td_plan.proofs.OneText.{filter-alike, made-alike}
use Rattle.td_plan.proofs.PlacingsAlike.{placings-agree}

-- ---- 1. lists

-- none passes
filter-none : {A : Type 0} (test : A → Bool) (xs : List A)
    → ((x : A) → Contains xs x → test x ≡ false) → filter test xs ≡ []
filter-none test [] none = refl
filter-none test (x ∷ xs) none =
    ap (λ (b : Bool). cond b (x ∷ filter test xs) (filter test xs)) (none x (has_first x xs))
    ∙ filter-none test xs (λ y has. none y (has_more x xs y has))

-- nothing is made of the numbers after one
made-short : (f : ℕ → List (List ℕ)) (m d : ℕ) → ((k : ℕ) → m < k → f k ≡ [])
    → flat_map f (range_with_len 1 (m + d)) ≡ flat_map f (range_with_len 1 m)
made-short f m zero none =
    let same : m + 0 ≡ m = omega arith in
    ap (λ (n : ℕ). flat_map f (range_with_len 1 n)) same
made-short f m (suc d) none =
    let next : m + suc d ≡ suc (m + d) = omega arith in
    let last : f (1 + (m + d)) ≡ [] = none (1 + (m + d)) (omega arith) in
    ap (λ (n : ℕ). flat_map f (range_with_len 1 n)) next
    ∙ ap (flat_map f) (range-more 1 (m + d))
    ∙ flat_map-append f (range_with_len 1 (m + d)) ((1 + (m + d)) ∷ [])
    ∙ ap (λ (l : List (List ℕ)). flat_map f (range_with_len 1 (m + d)) ++ (l ++ [])) last
    ∙ append-nil (flat_map f (range_with_len 1 (m + d)))
    ∙ made-short f m d none

-- so it is of two ends
made-ends : (f : ℕ → List (List ℕ)) (m n : ℕ) → ((k : ℕ) → m < k → f k ≡ [])
    → ((k : ℕ) → n < k → f k ≡ [])
    → flat_map f (range_with_len 1 m) ≡ flat_map f (range_with_len 1 n)
made-ends f m n after beyond = elim (cases_lt m n) [
  | inl low ↦
      let sum : m + (n - m) ≡ n = omega arith in
      sym (made-short f m (n - m) after)
      ∙ ap (λ (k : ℕ). flat_map f (range_with_len 1 k)) sum
  | inr high ↦
      let sum : n + (m - n) ≡ m = omega arith in
      ap (λ (k : ℕ). flat_map f (range_with_len 1 k)) (sym sum)
      ∙ made-short f n (m - n) beyond
]

-- ---- 2. steps

-- an affected source is one by its name
source-affected : (a : Contents) (t : Tracking) (s : KeptSource)
    → Contains (affected_sources a t) s → IsAffected a t s.head.name
source-affected a t s has =
    let mine = filter (is_affected a t) a.sources in
    any-again (bytes_eq s.head.name) (affected_names a t) s.head.name
    (map-again name_of mine s (in_order-found is_source_before mine s has))
    ((bytes_eq-Decides s.head.name s.head.name).1 refl)

module _ (lines : List KeptSource → List (List ℕ)) (sources : List KeptSource) (x y : Placing)
    (same : (s : KeptSource) → Contains sources s
    → (x.first s.head.name ≡ y.first s.head.name) × (x.step s.head.name ≡ y.step s.head.name))
  where
    begins-alike : (step : ℕ) (s : KeptSource) → Contains sources s
        → begins_part x step s ≡ begins_part y step s
    begins-alike step s has =
        ap (λ (f : List ℕ). bytes_eq s.head.name f && (x.step s.head.name == step)) (same s has).0
        ∙ ap (λ (k : ℕ). bytes_eq s.head.name (y.first s.head.name) && (k == step)) (same s has).1

    part-alike : (s : KeptSource) → Contains sources s
        → part_among x sources s ≡ part_among y sources s
    part-alike s has = filter-alike (is_beside x s) (is_beside y s) sources (λ u other.
        ap (λ (f : List ℕ). bytes_eq f (x.first s.head.name)) (same u other).0
        ∙ ap (λ (f : List ℕ). bytes_eq (y.first u.head.name) f) (same s has).0)

    step-alike : (step : ℕ) → step_lines lines x sources step ≡ step_lines lines y sources step
    step-alike step =
        let mine = filter (begins_part y step) sources in
        ap (under_head (step_words step) (λ s. lines (part_among x sources s)))
        (filter-alike (begins_part x step) (begins_part y step) sources (begins-alike step))
        ∙ ap (λ (l : List (List ℕ)). cond (length mine == 0) [] (step_words step ∷ l))
        (made-alike (λ s. lines (part_among x sources s)) (λ s. lines (part_among y sources s))
        mine (λ s has. ap lines (part-alike s (has-filter (begins_part y step) sources s has).0)))

    pub steps-alike : (ks : List ℕ)
        → flat_map (step_lines lines x sources) ks ≡ flat_map (step_lines lines y sources) ks
    steps-alike ks = ap (λ (f : ℕ → List (List ℕ)). flat_map f ks) (λ i k. step-alike k i)

-- a step that no source has has no lines
step-empty : (lines : List KeptSource → List (List ℕ)) (x : Placing) (sources : List KeptSource)
    (last step : ℕ) → ((s : KeptSource) → Contains sources s → x.step s.head.name ≤ last)
    → last < step → step_lines lines x sources step ≡ []
step-empty lines x sources last step within past =
    ap (under_head (step_words step) (λ s. lines (part_among x sources s)))
    (filter-none (begins_part x step) sources (λ s has. elim (cases_Bool (begins_part x step s)) [
      | inl begins ↦
          let both = and_parts (bytes_eq s.head.name (x.first s.head.name)) _ begins in
          let is = eqb-true (x.step s.head.name) step both.1 in
          let low = within s has in
          absurd (omega arith)
      | inr other ↦ other
    ]))

pub steps-are-one-text : StepsAreOneText
steps-are-one-text = λ lines a t text other mine its.
    let sources = affected_sources a t in
    let x = mine.placing in
    let y = its.placing in
    mine.written
    ∙ ap text_of (steps-alike lines sources x y (λ s has.
    placings-agree (IsAffected a t) a x y s.head.name mine.placed its.placed
    (source-affected a t s has)) (range_with_len 1 mine.last)
    ∙ made-ends (step_lines lines y sources) mine.last its.last
    (λ k past. step-empty lines y sources mine.last k (λ s has.
    let same = placings-agree (IsAffected a t) a x y s.head.name mine.placed its.placed
    (source-affected a t s has) in
    omega (arith, same.1, mine.within s has)) past)
    (λ k past. step-empty lines y sources its.last k its.within past))
    ∙ sym its.written

-- ---- 3. levels

pub whys-are-one-text : WhysAreOneText
whys-are-one-text = λ a t text other mine its.
    mine.written
    ∙ ap (λ (l : List ℕ → Option Level). text_of (flat_map (level_lines a l (affected_sources a t))
    (levels mine.depth)))
    (same_levels a t mine.level its.level mine.depth its.depth mine.leveled its.leveled)
    ∙ ap (λ (d : ℕ). text_of (flat_map (level_lines a its.level (affected_sources a t)) (levels d)))
    (same_depth a t mine.level its.level mine.depth its.depth mine.leveled its.leveled)
    ∙ sym its.written
