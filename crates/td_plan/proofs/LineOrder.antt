-- The lines of a plan stand in the order of the steps.
use Rattle.std.proofs.Common.{◌≡◌, ℕ, Bool, true, false, cond, ltb, List, [], ◌∷◌, ◌++◌, length}
use Rattle.std.proofs.Common.{Option, Some, None, map, refl, ap, ◌∙◌, append-nil}
use Rattle.std.specs.Prelude.{filter, option_map}
use Rattle.std.specs.List.{cons_option, filter_map, flat_map, list_any}
use Rattle.std.specs.Option.{option_and_then}
use Rattle.std.proofs.lemmas.List.Elements.{filter-append}
use Rattle.td_text.specs.Lines.{lines_of}
use Rattle.td_relation.specs.Table.{place_of}
use Rattle.td_rows.specs.declared.key.Key.{Key}
use Rattle.td_rows.specs.declared.row.Row.{Row}
use Rattle.td_indices.specs.Archive.{source_named}
use Rattle.td_indices.specs.Sources.{KeptSource}
use Rattle.td_query.specs.declared.status.Status.{Status}
use Rattle.td_query.specs.Statuses.{row_status}
use Rattle.td_plan.specs.Due.{due_places, has_due}
use Rattle.td_plan.specs.LineLaws.{NmuLinesAreInOrder, SourcesAreInOrder, StandsBefore}
use Rattle.td_plan.specs.LineLaws.{is_nmu_line, nmu_line_of}
use Rattle.td_plan.specs.Lines.{Words, check_line, comment, left_line, no_wait_line}
use Rattle.td_plan.specs.Lines.{step_line, title_lines, title_of}
use Rattle.td_plan.specs.Placing.{Placing, is_place_before}
use Rattle.td_plan.specs.Plan.{WaitingAt, all_waiting, check_lines, due_sources}
use Rattle.td_plan.specs.Plan.{dw_lines, is_alike, is_beside, is_same_part, is_same_step, left_at}
use Rattle.td_plan.specs.Plan.{left_of, lines_before, lines_from, no_wait_lines, part_lines}
use Rattle.td_plan.specs.Plan.{part_of, relation_lines, source_lines}
use Rattle.td_plan.specs.Premises.{Premises, key_at}
use Rattle.td_plan.specs.Reasons.{is_left, reason_of}
use Rattle.td_plan.specs.Waits.{Wait, awaited, is_waitless}
use Rattle.td_plan.proofs.PlaceOrder.{place-any, place-found, place-trans}
use Rattle.td_plan.proofs.Rising.{any-way-filter, any-way-from, order-rises}
use Rattle.td_plan.proofs.SourceOrder.{names-apart, rising-pairs}

-- ---- 1. the order of sources

pub sources_are_in_order : SourcesAreInOrder
sources_are_in_order p x sound =
    rising-pairs (is_place_before x) (StandsBefore x)
    (λ s t low. place-found (x.step s.head.name) (x.first s.head.name) s.head.name
    (x.step t.head.name) (x.first t.head.name) t.head.name low) (due_sources x p)
    (order-rises (is_place_before x)
    (λ s t u. place-trans (x.step s.head.name) (x.first s.head.name) s.head.name
    (x.step t.head.name) (x.first t.head.name) t.head.name
    (x.step u.head.name) (x.first u.head.name) u.head.name)
    (filter (has_due p) p.archive.sources)
    (any-way-filter (is_place_before x) (has_due p) p.archive.sources
    (any-way-from (is_place_before x) p.archive.sources (λ j k s t low left right.
    place-any (x.step s.head.name) (x.first s.head.name) s.head.name (x.step t.head.name)
    (x.first t.head.name) t.head.name (names-apart p sound j k s t low left right)))))

-- ---- 2. lines that aren't among those that pass

module _ (test : List ℕ → Bool) where
  -- a line, if there is one, doesn't pass
  abbrev Misses : Option (List ℕ) → Type 0
  Misses None = Unit {0}
  Misses (Some line) = test line ≡ false

  none-mapped : {X : Type 0} (f : X → List ℕ) (xs : List X) → ((x : X) → test (f x) ≡ false)
      → filter test (map f xs) ≡ []
  none-mapped f [] h = refl
  none-mapped f (x ∷ xs) h =
      ap (λ (b : Bool). cond b (f x ∷ filter test (map f xs)) (filter test (map f xs))) (h x)
      ∙ none-mapped f xs h

  none-of-each : {X : Type 0} (f : X → List (List ℕ)) (xs : List X)
      → ((x : X) → filter test (f x) ≡ []) → filter test (flat_map f xs) ≡ []
  none-of-each f [] h = refl
  none-of-each f (x ∷ xs) h =
      filter-append test (f x) (flat_map f xs)
      ∙ ap (λ (l : List (List ℕ)). l ++ filter test (flat_map f xs)) (h x)
      ∙ none-of-each f xs h

  none-picked : {X : Type 0} (f : X → Option (List ℕ)) (xs : List X)
      → ((x : X) → Misses (f x)) → filter test (filter_map f xs) ≡ []
  none-picked f [] h = refl
  none-picked f (x ∷ xs) h = by (f x) (h x) (none-picked f xs h)
    where
      by : (o : Option (List ℕ)) → Misses o → filter test (filter_map f xs) ≡ []
          → filter test (cons_option o (filter_map f xs)) ≡ []
      by None g rest = rest
      by (Some line) g rest =
          ap (λ (b : Bool). cond b (line ∷ filter test (filter_map f xs))
          (filter test (filter_map f xs))) g ∙ rest

  misses-then : {X : Type 0} (f : X → Option (List ℕ)) (o : Option X)
      → ((x : X) → Misses (f x)) → Misses (option_and_then f o)
  misses-then f None h = tt
  misses-then f (Some x) h = h x

abbrev nmu : List (List ℕ) → List (List ℕ)
nmu lines = filter is_nmu_line lines

-- ---- 3. the lines of a source

module _ (words : Words) (p : Premises) (x : Placing) where
  module _ (s : KeptSource) where
    no-checks : (w : WaitingAt) → nmu (check_lines p s w) ≡ []
    no-checks w = none-mapped is_nmu_line
        (λ (v : Wait). check_line (key_at p s w.place) v.name v.on)
        (filter (λ (v : Wait). v.older) w.waits) (λ v. refl)

    no-relations : (w : WaitingAt) (mine : List WaitingAt)
        → nmu (relation_lines words p s w mine) ≡ []
    no-relations w mine = none-of-each is_nmu_line (check_lines p s) mine no-checks

    no-dws : (before after : List WaitingAt) → nmu (dw_lines words p s before after) ≡ []
    no-dws before [] = refl
    no-dws before (w ∷ after) = by (list_any (is_alike w) before) (no-dws (before ++ w ∷ []) after)
      where
        by : (b : Bool) → nmu (dw_lines words p s (before ++ w ∷ []) after) ≡ []
            → nmu (cond b [] (relation_lines words p s w (filter (is_alike w) (w ∷ after)))
            ++ dw_lines words p s (before ++ w ∷ []) after) ≡ []
        by true rest = rest
        by false rest =
            filter-append is_nmu_line
            (relation_lines words p s w (filter (is_alike w) (w ∷ after)))
            (dw_lines words p s (before ++ w ∷ []) after)
            ∙ ap (λ (l : List (List ℕ)). l ++ nmu (dw_lines words p s (before ++ w ∷ []) after))
            (no-relations w (filter (is_alike w) (w ∷ after)))
            ∙ rest

    no-no-waits : (place : ℕ) → nmu (no_wait_lines x p s place) ≡ []
    no-no-waits place = none-mapped is_nmu_line
        (λ (t : KeptSource). no_wait_line (key_at p s place) t.head.name)
        (filter (is_waitless p s place) (awaited (is_beside x s) p s place)) (λ t. refl)

    one-nmu : nmu (source_lines words x p s) ≡ nmu_line_of words p s ∷ []
    one-nmu =
        ap (λ (l : List (List ℕ)). nmu_line_of words p s ∷ l)
        (filter-append is_nmu_line (dw_lines words p s [] (all_waiting x p s))
        (flat_map (no_wait_lines x p s) (due_places p s))
        ∙ ap (λ (l : List (List ℕ)). l ++ nmu (flat_map (no_wait_lines x p s) (due_places p s)))
        (no-dws [] (all_waiting x p s))
        ∙ none-of-each is_nmu_line (no_wait_lines x p s) (due_places p s) no-no-waits)

  -- ---- 4. the lines of all

  no-before : (last : Option KeptSource) (s : KeptSource) → nmu (lines_before x p last s) ≡ []
  no-before last s = by (is_same_step x last s) (is_same_part x last s)
    where
      several : (b : Bool) (line : List ℕ) → nmu (cond b (comment line ∷ []) []) ≡ []
      several true line = refl
      several false line = refl

      by : (b c : Bool) → nmu (cond b [] (step_line (x.step s.head.name) ∷ [])
          ++ cond c [] (part_lines (part_of x p s))) ≡ []
      by true true = refl
      by true false = several (ltb 1 (length (part_of x p s))) _
      by false true = refl
      by false false = several (ltb 1 (length (part_of x p s))) _

  nmu-each : (last : Option KeptSource) (sources : List KeptSource)
      → nmu (lines_from words x p last sources) ≡ map (nmu_line_of words p) sources
  nmu-each last [] = refl
  nmu-each last (s ∷ sources) =
      filter-append is_nmu_line (lines_before x p last s)
      (source_lines words x p s ++ lines_from words x p (Some s) sources)
      ∙ ap (λ (l : List (List ℕ)). l ++ nmu (source_lines words x p s
      ++ lines_from words x p (Some s) sources)) (no-before last s)
      ∙ filter-append is_nmu_line (source_lines words x p s)
      (lines_from words x p (Some s) sources)
      ∙ ap (λ (l : List (List ℕ)). l ++ nmu (lines_from words x p (Some s) sources)) (one-nmu s)
      ∙ ap (λ (l : List (List ℕ)). nmu_line_of words p s ∷ l) (nmu-each (Some s) sources)

  no-title : (lines : List (List ℕ)) → nmu (title_lines lines) ≡ []
  no-title [] = refl
  no-title (line ∷ lines) = none-mapped is_nmu_line comment lines (λ l. refl)

  no-left-at : (k : Key) (row : Row) (s : KeptSource) (place : ℕ)
      → Misses is_nmu_line (left_at p k row s place)
  no-left-at k row s place = by (is_left p s place)
    where
      status : (o : Option Status) → Misses is_nmu_line
          (option_map (λ v. left_line k v row (reason_of p s place)) o)
      status None = tt
      status (Some v) = refl

      by : (b : Bool) → Misses is_nmu_line (cond b (option_map
          (λ v. left_line k v row (reason_of p s place))
          (row_status p.archive p.tracker s place)) None)
      by true = status (row_status p.archive p.tracker s place)
      by false = tt

  no-left : (e : Key × Row) → Misses is_nmu_line (left_of p e)
  no-left e =
      misses-then is_nmu_line (λ s. option_and_then (left_at p e.0 e.1 s)
      (place_of p.archive.table e.0.arch)) (source_named p.archive e.0.source)
      (λ s. misses-then is_nmu_line (left_at p e.0 e.1 s) (place_of p.archive.table e.0.arch)
      (no-left-at e.0 e.1 s))

pub nmu_lines_are_in_order : NmuLinesAreInOrder
nmu_lines_are_in_order words p x =
    let lines = lines_from words x p None (due_sources x p) in
    filter-append is_nmu_line (title_of p.tracker.title) (lines ++ filter_map (left_of p) p.rows)
    ∙ ap (λ (l : List (List ℕ)). l ++ nmu (lines ++ filter_map (left_of p) p.rows))
    (no-title words p x (lines_of p.tracker.title))
    ∙ filter-append is_nmu_line lines (filter_map (left_of p) p.rows)
    ∙ ap (λ (l : List (List ℕ)). nmu lines ++ l)
    (none-picked is_nmu_line (left_of p) p.rows (no-left words p x))
    ∙ append-nil (nmu lines)
    ∙ nmu-each words p x None (due_sources x p)
