-- The lines of a plan that are no comments are read as the plan's commands.
use Rattle.std.proofs.Common.{◌≡◌, ◌<◌, ℕ, Bool, true, false, cond, ltb, ◌&&◌, ◌||◌, List}
use Rattle.std.proofs.Common.{[]}
use Rattle.std.proofs.Common.{◌∷◌, ◌++◌, Option, Some, None, Result, Ok, length, map, refl, sym, ap}
use Rattle.std.proofs.Common.{subst}
use Rattle.std.proofs.Common.{◌∙◌, arith, append_assoc, append-nil}
use Rattle.std.specs.Prelude.{filter, option_map}
use Rattle.std.specs.List.{AllByRecursion, Contains, cons_option, filter_map, flat_map, list_any}
use Rattle.std.specs.Option.{option_and_then}
use Rattle.std.proofs.lemmas.Bool.{ltb-true}
use Rattle.std.proofs.lemmas.List.{map-append}
use Rattle.std.proofs.lemmas.List.Elements.{filter_map-append}
use Rattle.std.proofs.lemmas.Slice.Eq.{bytes_eq-Decides}
use Rattle.td_text.specs.Lines.{lines_of}
use Rattle.td_relation.specs.Table.{place_of}
use Rattle.td_rows.specs.declared.key.Key.{Key}
use Rattle.td_rows.specs.declared.row.Row.{Row}
use Rattle.td_indices.specs.Archive.{source_named}
use Rattle.td_indices.specs.Sources.{KeptSource}
use Rattle.td_query.specs.declared.status.Status.{Status}
use Rattle.td_query.specs.Statuses.{row_status}
use Rattle.td_wbread.specs.Command.{CommandParts}
use Rattle.td_wbread.specs.Tail.{is_suite as is_known_suite}
use Rattle.td_wbread.specs.declared.command.Verb.TheVariants.{Dw, Nmu}
use Rattle.td_wbread.specs.declared.fault.CommandFault.{CommandFault}
use Rattle.td_plan.specs.Due.{due_places, has_due, is_due, number_of}
use Rattle.td_plan.specs.Lines.{Words, check_line, comment, left_line, nmu_line, no_wait_line}
use Rattle.td_plan.specs.Lines.{step_line, title_lines, title_of}
use Rattle.td_plan.specs.Placing.{Placing, is_place_before}
use Rattle.td_plan.specs.Plan.{WaitingAt, all_waiting, arch_names, check_lines, due_sources}
use Rattle.td_plan.specs.Plan.{dw_lines}
use Rattle.td_plan.specs.Plan.{is_alike, is_beside, is_same_part, is_same_step, is_waiting, left_at}
use Rattle.td_plan.specs.Plan.{left_of, lines_before, lines_from, no_wait_lines, part_lines}
use Rattle.td_plan.specs.Plan.{part_of}
use Rattle.td_plan.specs.Plan.{plan_lines, relation_lines, source_lines, waiting_at}
use Rattle.td_plan.specs.PlanReading.{AreReadable, PlansAreRead, said_by}
use Rattle.td_plan.specs.PlayLaws.{dw_commands, plan_commands, source_commands}
use Rattle.td_plan.specs.Premises.{AreSound, Premises, arch_at, key_at, places}
use Rattle.td_plan.specs.ReadingLaws.{AreOfTable, CanBeWritten, IsSayable, command_with}
use Rattle.td_plan.specs.Reasons.{is_left, reason_of}
use Rattle.td_plan.specs.Relations.{relation_of}
use Rattle.td_plan.specs.Waits.{Wait, awaited, is_waitless}
use Rattle.td_plan.proofs.PlanArchs.{archs_of_table, kept_of_rest, kept_places}
use Rattle.td_plan.proofs.PlanNumbers.{number_some, number_within}
use Rattle.td_plan.proofs.PlanWaits.{all_in_order, from_contains, readable_packages}
use Rattle.td_plan.proofs.PlanWaits.{readable_sources, waits_can}
use Rattle.td_plan.proofs.ReadLines.{dw_lines_are_read, nmu_lines_are_read}
use Rattle.td_plan.proofs.SaidRelations.{relations_are_read}

abbrev Read : Type 0
Read = Result CommandParts CommandFault

abbrev read_of : CommandParts → Read
read_of c = Ok c

-- ---- 1. lines that say nothing

module _ (said : List ℕ → Option Read) where
  -- a line, if there is one, says nothing
  abbrev IsSilent : Option (List ℕ) → Type 0
  IsSilent None = Unit {0}
  IsSilent (Some line) = said line ≡ None

  silent_map : {X : Type 0} (f : X → List ℕ) (xs : List X) → ((x : X) → said (f x) ≡ None)
      → filter_map said (map f xs) ≡ []
  silent_map f [] h = refl
  silent_map f (x ∷ xs) h =
      ap (λ (o : Option Read). cons_option o (filter_map said (map f xs))) (h x)
      ∙ silent_map f xs h

  silent_each : {X : Type 0} (f : X → List (List ℕ)) (xs : List X)
      → ((x : X) → filter_map said (f x) ≡ []) → filter_map said (flat_map f xs) ≡ []
  silent_each f [] h = refl
  silent_each f (x ∷ xs) h =
      filter_map-append said (f x) (flat_map f xs)
      ∙ ap (λ (l : List Read). l ++ filter_map said (flat_map f xs)) (h x)
      ∙ silent_each f xs h

  silent_some : {X : Type 0} (f : X → Option (List ℕ)) (xs : List X)
      → ((x : X) → IsSilent (f x)) → filter_map said (filter_map f xs) ≡ []
  silent_some f [] h = refl
  silent_some f (x ∷ xs) h = by (f x) (h x) (silent_some f xs h)
    where
      by : (o : Option (List ℕ)) → IsSilent o → filter_map said (filter_map f xs) ≡ []
          → filter_map said (cons_option o (filter_map f xs)) ≡ []
      by None g rest = rest
      by (Some line) g rest =
          ap (λ (o : Option Read). cons_option o (filter_map said (filter_map f xs))) g ∙ rest

  silent_then : {X : Type 0} (f : X → Option (List ℕ)) (o : Option X)
      → ((x : X) → IsSilent (f x)) → IsSilent (option_and_then f o)
  silent_then f None h = tt
  silent_then f (Some x) h = h x

-- ---- 2. places that wait

-- a source waits for something at a place, and that can be written
record IsWait (w : WaitingAt) : Type 0 where
  some : 0 < length w.waits
  can : AllByRecursion CanBeWritten w.waits

waits_so : (g : ℕ → WaitingAt) (xs : List ℕ)
    → ((i : ℕ) → AllByRecursion CanBeWritten (g i).waits)
    → AllByRecursion IsWait (filter is_waiting (map g xs))
waits_so g [] h = tt
waits_so g (i ∷ xs) h = by (is_waiting (g i)) refl (waits_so g xs h)
  where
    by : (b : Bool) → is_waiting (g i) ≡ b
        → AllByRecursion IsWait (filter is_waiting (map g xs))
        → AllByRecursion IsWait
        (cond b (g i ∷ filter is_waiting (map g xs)) (filter is_waiting (map g xs)))
    by true is rest =
        (record { some = ltb-true 0 (length (g i).waits) is; can = h i }, rest)
    by false is rest = rest

some_kept : (due : ℕ → Bool) (at : ℕ → List ℕ) (xs : List ℕ) → list_any due xs ≡ true
    → 0 < length (map at (filter due xs))
some_kept due at [] h = absurd cc
some_kept due at (i ∷ xs) h = by (due i) h (λ g. some_kept due at xs g)
  where
    by : (b : Bool) → (b || list_any due xs) ≡ true
        → (list_any due xs ≡ true → 0 < length (map at (filter due xs)))
        → 0 < length (map at (cond b (i ∷ filter due xs) (filter due xs)))
    by true g later = omega arith
    by false g later = later g

-- ---- 3. the lines of a source

module _ (words : Words) (p : Premises) (x : Placing) (suites : List (List ℕ))
    (sound : AreSound p) (y : AreReadable words p)
    (known : is_known_suite suites words.suite ≡ true) where
  abbrev said : List ℕ → Option Read
  said line = said_by p.archive.table suites line

  module _ (s : KeptSource) (has : Contains p.archive.sources s) where
    sayable : (archs : List (List ℕ)) → 0 < length archs → AreOfTable p.archive.table archs
        → IsSayable p.archive.table s words archs
    sayable archs some chosen = record {
      table_fits = y.table;
      name = y.source s has;
      version = (s.head.parts, y.version s has);
      message = y.message;
      suite = y.suite;
      some = some;
      chosen = chosen;
    }

    nmu_said : has_due p s ≡ true
        → said (nmu_line words s (number_of p s) (arch_names p (due_places p s)))
        ≡ Some (read_of (command_with (Nmu (Some (number_of p s))) s
        (arch_names p (due_places p s)) words.message))
    nmu_said due = ap (λ (r : Read). Some r)
        (nmu_lines_are_read p.archive.table suites s words (number_of p s)
        (arch_names p (due_places p s))
        (sayable (arch_names p (due_places p s))
        (some_kept (is_due p s) (arch_at p.archive.table) (places p) due)
        (archs_of_table p.archive.table (is_due p s) sound.apart)) known
        (number_some p s due) (number_within p s due))

    mine : WaitingAt → List WaitingAt → List WaitingAt
    mine w after = filter (is_alike w) (w ∷ after)

    alike_itself : (w : WaitingAt) → is_alike w w ≡ true
    alike_itself w = (bytes_eq-Decides (relation_of w.waits) (relation_of w.waits)).1 refl

    some_mine : (w : WaitingAt) (after : List WaitingAt)
        → 0 < length (arch_names p (map (λ v. v.place) (filter (is_alike w) (w ∷ after))))
    some_mine w after = by (is_alike w w) (alike_itself w)
      where
        by : (b : Bool) → b ≡ true → 0 < length (arch_names p (map (λ v. v.place)
            (cond b (w ∷ filter (is_alike w) after) (filter (is_alike w) after))))
        by true e = omega arith
        by false e = absurd cc

    chosen_mine : (before after : List WaitingAt) (w : WaitingAt)
        → all_waiting x p s ≡ before ++ w ∷ after → list_any (is_alike w) before ≡ false
        → AreOfTable p.archive.table
        (arch_names p (map (λ v. v.place) (filter (is_alike w) (w ∷ after))))
    chosen_mine before after w is none =
        subst (λ (ns : List ℕ). AreOfTable p.archive.table (arch_names p ns))
        (sym (ap (map (λ (v : WaitingAt). v.place))
        (kept_of_rest (is_alike w) (all_waiting x p s) before (w ∷ after) is none)
        ∙ kept_places (waiting_at x p s) (λ i. refl) (is_due p s) is_waiting (is_alike w)
        (places p)))
        (archs_of_table p.archive.table (λ i. is_due p s i && (is_waiting (waiting_at x p s i)
        && is_alike w (waiting_at x p s i))) sound.apart)

    checks_silent : (w : WaitingAt) → filter_map said (check_lines p s w) ≡ []
    checks_silent w =
        silent_map said (λ (v : Wait). check_line (key_at p s w.place) v.name v.on)
        (filter (λ v. v.older) w.waits) (λ v. refl)

    dw_said : (before after : List WaitingAt) → all_waiting x p s ≡ before ++ after
        → AllByRecursion IsWait after
        → filter_map said (dw_lines words p s before after)
        ≡ map read_of (dw_commands p s before after)
    dw_said before [] is all = refl
    dw_said before (w ∷ after) is all =
        filter_map-append said (heads (list_any (is_alike w) before))
        (dw_lines words p s (before ++ w ∷ []) after)
        ∙ ap (λ (l : List Read). filter_map said (heads (list_any (is_alike w) before)) ++ l)
        (dw_said (before ++ w ∷ []) after
        (is ∙ sym (append_assoc before (w ∷ []) after)) all.1)
        ∙ ap (λ (l : List Read). l ++ map read_of (dw_commands p s (before ++ w ∷ []) after))
        (by (list_any (is_alike w) before) refl)
        ∙ sym (map-append read_of (commands (list_any (is_alike w) before))
        (dw_commands p s (before ++ w ∷ []) after))
      where
        archs : List (List ℕ)
        archs = arch_names p (map (λ v. v.place) (filter (is_alike w) (w ∷ after)))

        heads : Bool → List (List ℕ)
        heads b = cond b [] (relation_lines words p s w (filter (is_alike w) (w ∷ after)))

        commands : Bool → List CommandParts
        commands b = cond b [] (command_with Dw s archs (relation_of w.waits) ∷ [])

        by : (b : Bool) → list_any (is_alike w) before ≡ b
            → filter_map said (heads b) ≡ map read_of (commands b)
        by true e = refl
        by false e =
            ap (λ (r : Read). r ∷ filter_map said (flat_map (check_lines p s)
            (filter (is_alike w) (w ∷ after))))
            (dw_lines_are_read p.archive.table suites s words (relation_of w.waits) archs
            (sayable archs (some_mine w after) (chosen_mine before after w is e)) known
            (relations_are_read w.waits all.0.some all.0.can).1)
            ∙ ap (λ (l : List Read). read_of (command_with Dw s archs (relation_of w.waits)) ∷ l)
            (silent_each said (check_lines p s) (filter (is_alike w) (w ∷ after)) checks_silent)

    no_waits_silent : (place : ℕ) → filter_map said (no_wait_lines x p s place) ≡ []
    no_waits_silent place =
        silent_map said (λ (t : KeptSource). no_wait_line (key_at p s place) t.head.name)
        (filter (is_waitless p s place) (awaited (is_beside x s) p s place)) (λ t. refl)

    source_said : has_due p s ≡ true
        → filter_map said (source_lines words x p s) ≡ map read_of (source_commands words x p s)
    source_said due =
        ap (λ (o : Option Read). cons_option o (filter_map said
        (dw_lines words p s [] (all_waiting x p s)
        ++ flat_map (no_wait_lines x p s) (due_places p s)))) (nmu_said due)
        ∙ ap (λ (l : List Read). first ∷ l)
        (filter_map-append said (dw_lines words p s [] (all_waiting x p s))
        (flat_map (no_wait_lines x p s) (due_places p s))
        ∙ ap (λ (l : List Read). filter_map said (dw_lines words p s [] (all_waiting x p s)) ++ l)
        (silent_each said (no_wait_lines x p s) (due_places p s) no_waits_silent)
        ∙ append-nil (filter_map said (dw_lines words p s [] (all_waiting x p s)))
        ∙ dw_said [] (all_waiting x p s) refl
        (waits_so (waiting_at x p s) (due_places p s)
        (λ place. waits_can p sound (readable_packages words p y) (readable_sources words p y)
        (is_beside x s) s place)))
      where
        first : Read
        first = read_of (command_with (Nmu (Some (number_of p s))) s
            (arch_names p (due_places p s)) words.message)

  -- ---- 4. the lines of all

  before_silent : (last : Option KeptSource) (s : KeptSource)
      → filter_map said (lines_before x p last s) ≡ []
  before_silent last s =
      filter_map-append said (step (is_same_step x last s)) (part (is_same_part x last s))
      ∙ ap (λ (l : List Read). l ++ filter_map said (part (is_same_part x last s)))
      (step_silent (is_same_step x last s)) ∙ part_silent (is_same_part x last s)
    where
      step : Bool → List (List ℕ)
      step b = cond b [] (step_line (x.step s.head.name) ∷ [])

      part : Bool → List (List ℕ)
      part b = cond b [] (part_lines (part_of x p s))

      step_silent : (b : Bool) → filter_map said (step b) ≡ []
      step_silent true = refl
      step_silent false = refl

      several : (b : Bool) (line : List ℕ)
          → filter_map said (cond b (comment line ∷ []) []) ≡ []
      several true line = refl
      several false line = refl

      part_silent : (b : Bool) → filter_map said (part b) ≡ []
      part_silent true = refl
      part_silent false = several (ltb 1 (length (part_of x p s))) _

  -- a source of the archive with a due row
  record IsDueSource (s : KeptSource) : Type 0 where
    has : Contains p.archive.sources s
    due : has_due p s ≡ true

  sources_said : (last : Option KeptSource) (sources : List KeptSource)
      → AllByRecursion IsDueSource sources
      → filter_map said (lines_from words x p last sources)
      ≡ map read_of (flat_map (source_commands words x p) sources)
  sources_said last [] all = refl
  sources_said last (s ∷ sources) all =
      filter_map-append said (lines_before x p last s)
      (source_lines words x p s ++ lines_from words x p (Some s) sources)
      ∙ ap (λ (l : List Read). l ++ filter_map said
      (source_lines words x p s ++ lines_from words x p (Some s) sources)) (before_silent last s)
      ∙ filter_map-append said (source_lines words x p s) (lines_from words x p (Some s) sources)
      ∙ ap (λ (l : List Read). l ++ filter_map said (lines_from words x p (Some s) sources))
      (source_said s all.0.has all.0.due)
      ∙ ap (λ (l : List Read). map read_of (source_commands words x p s) ++ l)
      (sources_said (Some s) sources all.1)
      ∙ sym (map-append read_of (source_commands words x p s)
      (flat_map (source_commands words x p) sources))

  due_kept : (sources : List KeptSource) → AllByRecursion (Contains p.archive.sources) sources
      → AllByRecursion IsDueSource (filter (has_due p) sources)
  due_kept [] all = tt
  due_kept (s ∷ sources) all = by (has_due p s) refl (due_kept sources all.1)
    where
      by : (b : Bool) → has_due p s ≡ b
          → AllByRecursion IsDueSource (filter (has_due p) sources)
          → AllByRecursion IsDueSource
          (cond b (s ∷ filter (has_due p) sources) (filter (has_due p) sources))
      by true is rest = (record { has = all.0; due = is }, rest)
      by false is rest = rest

  all_due : AllByRecursion IsDueSource (due_sources x p)
  all_due = all_in_order IsDueSource (is_place_before x)
      (filter (has_due p) p.archive.sources)
      (due_kept p.archive.sources
      (from_contains (Contains p.archive.sources) p.archive.sources (λ s h. h)))

  title_silent : (lines : List (List ℕ)) → filter_map said (title_lines lines) ≡ []
  title_silent [] = refl
  title_silent (line ∷ lines) = silent_map said comment lines (λ l. refl)

  at_silent : (k : Key) (row : Row) (s : KeptSource) (place : ℕ)
      → IsSilent said (left_at p k row s place)
  at_silent k row s place = by (is_left p s place)
    where
      status : (o : Option Status) → IsSilent said
          (option_map (λ v. left_line k v row (reason_of p s place)) o)
      status None = tt
      status (Some v) = refl

      by : (b : Bool) → IsSilent said (cond b (option_map
          (λ v. left_line k v row (reason_of p s place))
          (row_status p.archive p.tracker s place)) None)
      by true = status (row_status p.archive p.tracker s place)
      by false = tt

  left_silent : (e : Key × Row) → IsSilent said (left_of p e)
  left_silent e =
      silent_then said (λ s. option_and_then (left_at p e.0 e.1 s)
      (place_of p.archive.table e.0.arch)) (source_named p.archive e.0.source)
      (λ s. silent_then said (left_at p e.0 e.1 s) (place_of p.archive.table e.0.arch)
      (at_silent e.0 e.1 s))

  plan_said : filter_map said (plan_lines words x p)
      ≡ map read_of (plan_commands words x p)
  plan_said =
      filter_map-append said (title_of p.tracker.title)
      (lines_from words x p None (due_sources x p) ++ filter_map (left_of p) p.rows)
      ∙ ap (λ (l : List Read). l ++ filter_map said
      (lines_from words x p None (due_sources x p) ++ filter_map (left_of p) p.rows))
      (title_silent (lines_of p.tracker.title))
      ∙ filter_map-append said (lines_from words x p None (due_sources x p))
      (filter_map (left_of p) p.rows)
      ∙ ap (λ (l : List Read). filter_map said (lines_from words x p None (due_sources x p)) ++ l)
      (silent_some said (left_of p) p.rows left_silent)
      ∙ append-nil (filter_map said (lines_from words x p None (due_sources x p)))
      ∙ sources_said None (due_sources x p) all_due

pub plans_are_read : PlansAreRead
plans_are_read words p x suites sound y known = plan_said words p x suites sound y known
