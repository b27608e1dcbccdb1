-- The plan of the rows of the affected sources is that of all rows: what isn't affected isn't
-- wanted, and a row that is wanted is looked for with the rows of its own source alone.
use Rattle.std.proofs.Common.{◌≡◌, ℕ, ◌+◌, ◌∙◌, ◌&&◌, ◌||◌, ◌++◌, not, leb, ltb}
use Rattle.std.proofs.Common.{Bool, true, false, IsTrue, List, [], ◌∷◌, None, Option, Some, filter}
use Rattle.std.proofs.Common.{flat_map, is_none, is_some, length, map, option_map}
use Rattle.std.proofs.Common.{if◌then◌else◌, refl, sym, ap, subst, inl, inr}
use Rattle.std.specs.List.{Contains, cons_option, filter_map, list_all, list_any, range_with_len}
use Rattle.std.specs.Option.{option_and_then, option_map_or, option_to_list}
use Rattle.std.specs.Str.{bytes_eq}
use Rattle.std.proofs.lemmas.Bool.{and_left, and_right, cases_Bool, cases_lt, false≢true}
use Rattle.std.proofs.lemmas.Slice.Eq.{bytes_eq-Decides}
use Rattle.td_text.specs.Limits.{max_rebuild}
use Rattle.td_text.specs.Lines.{text_of}
use Rattle.td_relation.specs.Table.{place_of}
use Rattle.td_rows.specs.States.{is_installed}
use Rattle.td_rows.specs.Table.{Table, row_of}
use Rattle.td_rows.specs.declared.key.Key.{Key}
use Rattle.td_rows.specs.declared.row.Row.{Row}
use Rattle.td_indices.specs.Archive.{source_named}
use Rattle.td_indices.specs.Choosing.{flagged, is_of_one}
use Rattle.td_indices.specs.Kept.{KeptBinary}
use Rattle.td_indices.specs.Opening.{current_numbers}
use Rattle.td_indices.specs.Sources.{KeptSource}
use Rattle.td_indices.proofs.OfferLaws.{has_first, has_more}
use Rattle.td_query.specs.declared.status.Status.{Status}
use Rattle.td_query.specs.Statuses.{is_affected, row_status}
use Rattle.td_query.proofs.AffectedSources.{flagged-map}
use Rattle.td_query.proofs.RowStatuses.{status_past}
use Rattle.td_waves.specs.Waves.{BuildsOn}
use Rattle.td_plan.specs.BuildsThere.{builds_there}
use Rattle.td_plan.specs.Due.{arrival_number, asks_rebuild, due_places, has_due, has_number, is_due}
use Rattle.td_plan.specs.Due.{is_moving, is_pending, is_present, is_ready, is_under_way, is_wanted}
use Rattle.td_plan.specs.Due.{moves, number_of}
use Rattle.td_plan.specs.InOrder.{in_order}
use Rattle.td_plan.specs.Lines.{Words, left_line, nmu_line, no_wait_line, step_line, title_of}
use Rattle.td_plan.specs.Numbers.{greatest, number_if, numbers_at}
use Rattle.td_plan.specs.Packages.{own_package, present_package}
use Rattle.td_plan.specs.Parts.{ArePlaced, IsOnePart}
use Rattle.td_plan.specs.Placing.{IsFirst, IsPlacing, Moves, Placing, is_place_before}
use Rattle.td_plan.specs.Plan.{IsPlan, WaitingAt, arch_names, due_sources, dw_lines, is_alike}
use Rattle.td_plan.specs.Plan.{is_beside, is_same_part, is_same_step, is_waiting, left_at, left_of}
use Rattle.td_plan.specs.Plan.{lines_before, lines_from, part_lines, plan_lines, relation_lines}
use Rattle.td_plan.specs.Plan.{source_lines}
use Rattle.td_plan.specs.Premises.{Premises, is_bad, key_at, places, row_at}
use Rattle.td_plan.specs.Reasons.{all, is_exactly, is_left, is_of_all, number, old}
use Rattle.td_plan.specs.Reasons.{reason_of, some_bad, source, state}
use Rattle.td_plan.specs.SoundLaws.{AffectedOpeningRowsAreEnough, AffectedRowsAreEnough}
use Rattle.td_plan.specs.SoundLaws.{affected_rows, with_rows}
use Rattle.td_plan.specs.Waits.{Wait, awaited, is_source_before, is_wait_before, is_waitless}
use Rattle.td_plan.specs.Waits.{moving_sources, wait_if, wait_of, wait_with, waits_of}
use Rattle.td_plan.proofs.Chosen.{find-has}
use Rattle.td_plan.proofs.Existing.{filter-has, none-of, range-has, some-any}
use Rattle.td_plan.proofs.InOrders.{filter-of, order-of}
use Rattle.td_plan.proofs.KeptRows.{kept, row_of-kept}
use Rattle.td_plan.proofs.LeftSteps.{left-unaffected}
use Rattle.td_plan.proofs.MovingSources.{moves-affected}
use Rattle.td_plan.proofs.Named.{placed-at}
use Rattle.td_plan.proofs.OneText.{due-moves, filter-alike}

-- ---- 1. lists

any-alike : {A : Type 0} (f g : A → Bool) (xs : List A) → ((x : A) → Contains xs x → f x ≡ g x)
    → list_any f xs ≡ list_any g xs
any-alike f g [] same = refl
any-alike f g (x ∷ xs) same =
    ap (λ (b : Bool). b || list_any f xs) (same x (has_first x xs))
    ∙ ap (λ (b : Bool). g x || b) (any-alike f g xs (λ y has. same y (has_more x xs y has)))

map-alike : {A B : Type 0} (f g : A → Option B) (xs : List A)
    → ((x : A) → Contains xs x → f x ≡ g x) → filter_map f xs ≡ filter_map g xs
map-alike f g [] same = refl
map-alike {A} {B} f g (x ∷ xs) same =
    ap (λ (o : Option B). cons_option o (filter_map f xs)) (same x (has_first x xs))
    ∙ ap (cons_option (g x)) (map-alike f g xs (λ y has. same y (has_more x xs y has)))

-- items of which nothing is made may be left out
map-kept : {A B : Type 0} (f : A → Option B) (keep : A → Bool) (xs : List A)
    → ((x : A) → keep x ≡ false → f x ≡ None) → filter_map f (filter keep xs) ≡ filter_map f xs
map-kept f keep [] none = refl
map-kept {A} {B} f keep (x ∷ xs) none =
    elim (cases_Bool (keep x)) [
      | inl is ↦ rw is (ap (λ (l : List B). cons_option (f x) l) (map-kept f keep xs none))
      | inr other ↦ rw (other, none x other) (map-kept f keep xs none)
    ]

-- ---- 2. what isn't affected isn't wanted

unasked : (o : Option Status) → is_some o ≡ false → asks_rebuild o ≡ false
unasked None none = refl
unasked (Some status) none = absurd (false≢true (sym none))

unwanted : (p : Premises) (s : KeptSource) → Contains p.archive.sources s
    → is_affected p.archive p.tracker s ≡ false → (place : ℕ) → is_wanted p s place ≡ false
unwanted p s has none place =
    let a = p.archive in
    let t = p.tracker in
    elim (cases_lt place (length a.table)) [
      | inl low ↦ unasked (row_status a t s place)
          (none-of (λ k. is_some (row_status a t s k)) (range_with_len 0 (length a.table)) place
          none (range-has (length a.table) place low))
      | inr past ↦
          let nowhere : None ≡ row_status a t s place = status_past a t has.0 place past
          ∙ ap (λ (o : Option KeptSource). option_map_or (λ x. row_status a t x place) o None)
          (placed-at a.sources s has) in
          ap asks_rebuild (sym nowhere)
    ]

still-due : (p : Premises) (s : KeptSource) (place : ℕ) → is_wanted p s place ≡ false
    → is_due p s place ≡ false
still-due p s place off =
    and_right (has_number p s) (is_ready p s place) (and_left (is_wanted p s place) _ off)

still-pending : (p : Premises) (s : KeptSource) (place : ℕ) → is_wanted p s place ≡ false
    → is_pending p s place ≡ false
still-pending p s place off = and_left (is_wanted p s place) _ off

still-left : (p : Premises) (s : KeptSource) (place : ℕ) → is_wanted p s place ≡ false
    → is_left p s place ≡ false
still-left p s place off = and_left (is_wanted p s place) _ off

module _ (q : Premises) where
  abbrev p : Premises
  p = with_rows q (affected_rows q)

  abbrev affected : KeptSource → Bool
  affected s = is_affected q.archive q.tracker s

  abbrev keep : Key → Bool
  keep k = is_of_one (filter affected q.archive.sources) k

  -- a source of the archive, and an affected one
  abbrev IsThere : KeptSource → Type 0
  IsThere s = Contains q.archive.sources s

  abbrev IsOne : KeptSource → Type 0
  IsOne s = IsThere s × (affected s ≡ true)

  -- ---- 3. an affected source

  module _ (s : KeptSource) (one : IsOne s) where
    keeps : (k : Key) → k.source ≡ s.head.name → keep k ≡ true
    keeps k name = some-any (λ (u : KeptSource). bytes_eq k.source u.head.name)
        (filter affected q.archive.sources) s (filter-has affected q.archive.sources s one.0 one.1)
        ((bytes_eq-Decides k.source s.head.name).1 name)

    row-same : (place : ℕ) → row_at p s place ≡ row_at q s place
    row-same place =
        row_of-kept keep q.rows (key_at q s place)
        ∙ ap (λ (b : Bool). if b then row_of q.rows (key_at q s place) else None)
        (keeps (key_at q s place) refl)

    ready-same : is_ready p s ≡ is_ready q s
    ready-same = λ i place. is_wanted q s place
        && (option_map_or (λ (r : Row). is_installed r.state) (row-same place i) false
        && list_any (λ (b : KeptBinary). is_present s place b && is_bad q b) q.archive.binaries)

    numbers-same : numbers_at p s ≡ numbers_at q s
    numbers-same = λ i place. number_if (row-same place i) ++ current_numbers q.archive s place

    -- the number of the due rows, by which rows are ready and the numbers at each place
    abbrev over : (ℕ → Bool) → (ℕ → List ℕ) → ℕ
    over test numbers = let top = greatest (flat_map numbers (places q)) in
        if list_all (λ n. ltb n top) (flat_map numbers (filter test (places q))) then top
        else top + 1

    number-same : number_of p s ≡ number_of q s
    number-same = λ i. over (ready-same i) (numbers-same i)

    due-same : is_due p s ≡ is_due q s
    due-same = λ i place. leb (number-same i) max_rebuild && ready-same i place

    pending-same : is_pending p s ≡ is_pending q s
    pending-same = λ i place. is_wanted q s place
        && option_map_or (λ (r : Row). is_under_way r.state) (row-same place i) false

    arrival-same : arrival_number p s ≡ arrival_number q s
    arrival-same = λ i place. if due-same i place then number-same i
        else option_map_or (λ (r : Row). r.number) (row-same place i) 0

    reason-same : reason_of p s ≡ reason_of q s
    reason-same = λ i place.
        if not (option_map_or (λ (r : Row). is_installed r.state) (row-same place i) false)
        then state
        else (if not (leb (number-same i) max_rebuild) then number
        else (if some_bad (is_exactly place) q s then old
        else (if some_bad is_of_all q s then all
        else source)))

  -- ---- 4. any source of the archive

  abbrev Alike : (Premises → KeptSource → ℕ → Bool) → KeptSource → Type 0
  Alike test s = test p s ≡ test q s

  -- a test that fails where nothing is wanted, and is the same of affected sources
  alike : (test : Premises → KeptSource → ℕ → Bool)
      → ((r : Premises) (s : KeptSource) (place : ℕ) → is_wanted r s place ≡ false
      → test r s place ≡ false)
      → ((s : KeptSource) → IsOne s → Alike test s) → (s : KeptSource) → IsThere s → Alike test s
  alike test off same s has = elim (cases_Bool (affected s)) [
    | inl is ↦ same s (has, is)
    | inr other ↦ λ i place. (off p s place (unwanted q s has other place)
        ∙ sym (off q s place (unwanted q s has other place))) i
  ]

  due-alike : (s : KeptSource) → IsThere s → is_due p s ≡ is_due q s
  due-alike s has = alike is_due still-due due-same s has

  pending-alike : (s : KeptSource) → IsThere s → is_pending p s ≡ is_pending q s
  pending-alike s has = alike is_pending still-pending pending-same s has

  moving-alike : (s : KeptSource) → IsThere s → is_moving p s ≡ is_moving q s
  moving-alike s has = λ i place. due-alike s has i place || pending-alike s has i place

  moves-alike : (s : KeptSource) → IsThere s → moves p s ≡ moves q s
  moves-alike s has = ap (λ (test : ℕ → Bool). list_any test (places q)) (moving-alike s has)

  has_due-alike : (s : KeptSource) → IsThere s → has_due p s ≡ has_due q s
  has_due-alike s has = ap (λ (test : ℕ → Bool). list_any test (places q)) (due-alike s has)

  places-alike : (s : KeptSource) → IsThere s → due_places p s ≡ due_places q s
  places-alike s has = ap (λ (test : ℕ → Bool). filter test (places q)) (due-alike s has)

  -- ---- 5. the sources that move, and for what they wait

  moving-are : moving_sources p ≡ moving_sources q
  moving-are = ap (in_order is_source_before)
      (filter-alike (moves p) (moves q) q.archive.sources moves-alike)

  moving-one : (t : KeptSource) → Contains (moving_sources q) t → IsOne t
  moving-one t has =
      let of = filter-of (moves q) q.archive.sources t
      (order-of is_source_before (filter (moves q) q.archive.sources) t has) in
      (of.0, moves-affected q t of.1)

  -- whether s waits for t at a place
  abbrev awaits : Premises → (KeptSource → Bool) → KeptSource → ℕ → KeptSource → Bool
  awaits r beside s place t =
      is_moving r t place && (builds_there q.archive place s t && not (beside t))

  awaited-are : (beside : KeptSource → Bool) (s : KeptSource) (place : ℕ)
      → awaited beside p s place ≡ awaited beside q s place
  awaited-are beside s place =
      ap (filter (awaits p beside s place)) moving-are
      ∙ filter-alike (awaits p beside s place) (awaits q beside s place) (moving_sources q)
      (λ t has. ap (λ (test : ℕ → Bool). test place
      && (builds_there q.archive place s t && not (beside t)))
      (moving-alike t (moving-one t has).0))

  awaited-one : (beside : KeptSource → Bool) (s : KeptSource) (place : ℕ) (t : KeptSource)
      → Contains (awaited beside q s place) t → IsOne t
  awaited-one beside s place t has =
      moving-one t (filter-of (awaits q beside s place) (moving_sources q) t has).0

  wait-same : (s : KeptSource) (place : ℕ) (t : KeptSource) → IsOne t
      → wait_of p s place t ≡ wait_of q s place t
  wait-same s place t one = by (present_package q.archive s t place)
    where
      by : (o : Option KeptBinary) → wait_with p s t place o ≡ wait_with q s t place o
      by None = ap (λ (f : ℕ → ℕ). wait_if t (f place) true (own_package q.archive s t place))
          (arrival-same t one)
      by (Some b) = ap (λ (f : ℕ → ℕ). wait_if t (f place) false (Some b)) (arrival-same t one)

  waits-are : (beside : KeptSource → Bool) (s : KeptSource) (place : ℕ)
      → waits_of beside p s place ≡ waits_of beside q s place
  waits-are beside s place =
      ap (λ (l : List KeptSource). in_order is_wait_before (filter_map (wait_of p s place) l))
      (awaited-are beside s place)
      ∙ ap (in_order is_wait_before)
      (map-alike (wait_of p s place) (wait_of q s place) (awaited beside q s place)
      (λ t has. wait-same s place t (awaited-one beside s place t has)))

  -- the awaited sources for which no wait can be written
  abbrev waitless : Premises → (KeptSource → Bool) → KeptSource → ℕ → List KeptSource
  waitless r beside s place = filter (is_waitless r s place) (awaited beside r s place)

  waitless-are : (beside : KeptSource → Bool) (s : KeptSource) (place : ℕ)
      → waitless p beside s place ≡ waitless q beside s place
  waitless-are beside s place =
      ap (filter (is_waitless p s place)) (awaited-are beside s place)
      ∙ filter-alike (is_waitless p s place) (is_waitless q s place) (awaited beside q s place)
      (λ t has. ap (λ (o : Option Wait). is_none o)
      (wait-same s place t (awaited-one beside s place t has)))

  -- ---- 6. the lines of sources

  module _ (words : Words) (x : Placing) where
    dw-are : (s : KeptSource) (before ws : List WaitingAt)
        → dw_lines words p s before ws ≡ dw_lines words q s before ws
    dw-are s before [] = refl
    dw-are s before (w ∷ ws) =
        ap (λ (ls : List (List ℕ)). (if list_any (is_alike w) before then []
        else relation_lines words q s w (filter (is_alike w) (w ∷ ws))) ++ ls)
        (dw-are s (before ++ w ∷ []) ws)

    -- the lines of a source, by its number, its due places, and for what it waits there
    abbrev lines_by : KeptSource → ℕ → List ℕ → (ℕ → List Wait) → (ℕ → List KeptSource)
        → List (List ℕ)
    lines_by s n ps waits nots =
        nmu_line words s n (arch_names q ps)
        ∷ (dw_lines words q s [] (filter is_waiting
        (map (λ place. record { place = place; waits = waits place }) ps))
        ++ flat_map (λ place. map (λ (t : KeptSource). no_wait_line (key_at q s place) t.head.name)
        (nots place)) ps)

    abbrev waiting : KeptSource → List WaitingAt
    waiting s = filter is_waiting (map (λ place.
        record { place = place; waits = waits_of (is_beside x s) p s place }) (due_places p s))

    abbrev nots : KeptSource → List (List ℕ)
    nots s = flat_map (λ place. map (λ (t : KeptSource).
        no_wait_line (key_at q s place) t.head.name) (waitless p (is_beside x s) s place))
        (due_places p s)

    source-lines : (s : KeptSource) → IsOne s → source_lines words x p s ≡ source_lines words x q s
    source-lines s one =
        ap (λ (ls : List (List ℕ)).
        nmu_line words s (number_of p s) (arch_names q (due_places p s)) ∷ (ls ++ nots s))
        (dw-are s [] (waiting s))
        ∙ (λ i. lines_by s (number-same s one i) (places-alike s one.0 i)
        (λ place. waits-are (is_beside x s) s place i)
        (λ place. waitless-are (is_beside x s) s place i))

    lines-before : (last : Option KeptSource) (s : KeptSource)
        → lines_before x p last s ≡ lines_before x q last s
    lines-before last s =
        ap (λ (l : List KeptSource).
        (if is_same_step x last s then [] else step_line (x.step s.head.name) ∷ [])
        ++ (if is_same_part x last s then [] else part_lines (filter (is_beside x s) l))) moving-are

    lines-are : (last : Option KeptSource) (sources : List KeptSource)
        → ((s : KeptSource) → Contains sources s → IsOne s)
        → lines_from words x p last sources ≡ lines_from words x q last sources
    lines-are last [] ones = refl
    lines-are last (s ∷ sources) ones =
        let rest = lines-are (Some s) sources (λ t has. ones t (has_more s sources t has)) in
        λ i. lines-before last s i
        ++ (source-lines s (ones s (has_first s sources)) i ++ rest i)

    sources-are : due_sources x p ≡ due_sources x q
    sources-are = ap (in_order (is_place_before x))
        (filter-alike (has_due p) (has_due q) q.archive.sources has_due-alike)

    due-one : (s : KeptSource) → Contains (due_sources x q) s → IsOne s
    due-one s has =
        let of = filter-of (has_due q) q.archive.sources s
        (order-of (is_place_before x) (filter (has_due q) q.archive.sources) s has) in
        (of.0, moves-affected q s (due-moves q s of.1))

    due-lines : lines_from words x p None (due_sources x p)
        ≡ lines_from words x q None (due_sources x q)
    due-lines =
        ap (lines_from words x p None) sources-are ∙ lines-are None (due_sources x q) due-one

  -- ---- 7. the rows that aren't planned

  left-at : (k : Key) (row : Row) (s : KeptSource) → IsThere s
      → left_at p k row s ≡ left_at q k row s
  left-at k row s has = elim (cases_Bool (affected s)) [
    | inl is ↦ λ i place.
        if is_wanted q s place && not (due-same s (has, is) i place)
        then option_map (λ (status : Status).
        left_line k status row (reason-same s (has, is) i place))
        (row_status q.archive q.tracker s place) else None
    | inr other ↦ λ i place. (nothing p place (unwanted q s has other place)
        ∙ sym (nothing q place (unwanted q s has other place))) i
  ]
    where
      nothing : (r : Premises) (place : ℕ) → is_wanted r s place ≡ false
          → left_at r k row s place ≡ None
      nothing r place off =
          ap (λ (b : Bool). if b then option_map (λ (status : Status).
          left_line k status row (reason_of r s place))
          (row_status r.archive r.tracker s place) else None) (still-left r s place off)

  named-there : (k : Key) (s : KeptSource) → source_named q.archive k.source ≡ Some s
      → IsThere s × (k.source ≡ s.head.name)
  named-there k s named =
      let of = find-has (λ (u : KeptSource). bytes_eq k.source u.head.name) q.archive.sources s
      named in
      (of.0, (bytes_eq-Decides k.source s.head.name).0 of.1)

  left-of : (e : Key × Row) → left_of p e ≡ left_of q e
  left-of e = by (source_named q.archive e.0.source) refl
    where
      by : (o : Option KeptSource) → source_named q.archive e.0.source ≡ o
          → option_and_then (λ (s : KeptSource). option_and_then (left_at p e.0 e.1 s)
          (place_of q.archive.table e.0.arch)) o
          ≡ option_and_then (λ (s : KeptSource). option_and_then (left_at q e.0 e.1 s)
          (place_of q.archive.table e.0.arch)) o
      by None named = refl
      by (Some s) named =
          ap (λ (f : ℕ → Option (List ℕ)). option_and_then f (place_of q.archive.table e.0.arch))
          (left-at e.0 e.1 s (named-there e.0 s named).0)

  empty-none : {A : Type 0} (o : Option A) → option_to_list o ≡ [] → o ≡ None
  empty-none None is = refl
  empty-none (Some x) is = absurd cc

  -- a row of a source that isn't affected has no line
  left-out : (e : Key × Row) → keep e.0 ≡ false → left_of q e ≡ None
  left-out e out =
      empty-none (left_of q e) (left-unaffected q e.0 e.1 (λ s named.
      let mine = named-there e.0 s named in
      elim (cases_Bool (affected s)) [
        | inl is ↦ absurd (false≢true (sym out ∙ keeps s (mine.0, is) e.0 mine.1))
        | inr other ↦ other
      ]))

  left-lines : filter_map (left_of p) (kept keep q.rows) ≡ filter_map (left_of q) q.rows
  left-lines =
      ap (λ (f : Key × Row → Option (List ℕ)). filter_map f (kept keep q.rows))
      (λ i e. left-of e i)
      ∙ map-kept (left_of q) (λ e. keep e.0) q.rows left-out

  -- ---- 8. the plan

  plan-are : (words : Words) (x : Placing) → plan_lines words x p ≡ plan_lines words x q
  plan-are words x = λ i. title_of q.tracker.title ++ (due-lines words x i ++ left-lines i)

  moves-are : Moves p ≡ Moves q
  moves-are = λ i name. IsTrue (any-alike
      (λ (s : KeptSource). bytes_eq name s.head.name && moves p s)
      (λ (s : KeptSource). bytes_eq name s.head.name && moves q s) q.archive.sources
      (λ s has. ap (λ (b : Bool). bytes_eq name s.head.name && b) (moves-alike s has)) i)

  there : (name : List ℕ) → Moves p name → Moves q name
  there name h = subst (λ (M : List ℕ → Type 0). M name) moves-are h

  back : (name : List ℕ) → Moves q name → Moves p name
  back name h = subst (λ (M : List ℕ → Type 0). M name) (sym moves-are) h

  first-is : (x : Placing) (name : List ℕ) → IsFirst p x.first name → IsFirst q x.first name
  first-is x name f = record {
    node = there (x.first name) f.node;
    within = subst (λ (M : List ℕ → Type 0).
        IsOnePart M (BuildsOn q.archive) name (x.first name)) moves-are f.within;
    least = λ other moves one. f.least other (back other moves)
        (subst (λ (M : List ℕ → Type 0). IsOnePart M (BuildsOn q.archive) name other)
        (sym moves-are) one);
  }

  placing-is : (x : Placing) → IsPlacing p x → IsPlacing q x
  placing-is x is = record {
    placed = subst (λ (M : List ℕ → Type 0). ArePlaced M (BuildsOn q.archive) x.first x.step)
        moves-are is.placed;
    first = λ name moves. first-is x name (is.first name (back name moves));
  }

pub affected-rows-are-enough : AffectedRowsAreEnough
affected-rows-are-enough words q text plan = record {
  placing = plan.placing;
  placed = placing-is q plan.placing plan.placed;
  written = plan.written ∙ ap (λ (ls : List (List ℕ)). text_of ls) (plan-are q words plan.placing);
}

pub affected-opening-rows-are-enough : AffectedOpeningRowsAreEnough
affected-opening-rows-are-enough words p flags text are rows plan =
    let a = p.archive in
    let of : List KeptSource → Table = λ sources. filter (λ e. is_of_one sources e.0) rows.all in
    let own : p.rows ≡ affected_rows (with_rows p rows.all) =
    rows.own ∙ ap (λ (fs : List Bool). of (flagged fs a.sources)) are
    ∙ ap of (flagged-map (is_affected a p.tracker) a.sources) in (
      rows.all,
      record { same = rows.opened; rising = rows.rising },
      affected-rows-are-enough words (with_rows p rows.all) text
          (subst (λ (r : Table). IsPlan words (with_rows p r) text) own plan),
    )
