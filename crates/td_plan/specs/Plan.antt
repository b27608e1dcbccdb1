-- The lines of a plan. This project's own.
use Rattle.std.specs.Prelude.{◌≡◌, ℕ, ◌==◌, Bool, false, List, [], ◌∷◌, ◌++◌, Option}
use Rattle.std.specs.Prelude.{Some, None, filter, length, map, nat_lt, option_map}
use Rattle.std.specs.Prelude.{if◌then◌else◌}
use Rattle.std.specs.List.{filter_map, flat_map, list_any}
use Rattle.std.specs.Option.{option_and_then, option_map_or}
use Rattle.std.specs.Str.{bytes_eq}
use Rattle.td_text.specs.Lines.{text_of}
use Rattle.td_relation.specs.Table.{place_of}
use Rattle.td_rows.specs.declared.key.Key.{Key}
use Rattle.td_rows.specs.declared.row.Row.{Row}
use Rattle.td_indices.specs.Archive.{source_named}
use Rattle.td_indices.specs.Sources.{KeptSource}
use Rattle.td_query.specs.Statuses.{row_status}
use Rattle.td_plan.specs.Due.{due_places, has_due, number_of}
use Rattle.td_plan.specs.InOrder.{in_order}
use Rattle.td_plan.specs.Lines.{Words, check_line, dw_line, left_line, nmu_line, no_wait_line}
use Rattle.td_plan.specs.Lines.{part_line, step_line, title_of}
use Rattle.td_plan.specs.Placing.{IsPlacing, Placing, are_of_one_part, is_place_before}
use Rattle.td_plan.specs.Premises.{Premises, arch_at, key_at, name_of}
use Rattle.td_plan.specs.Reasons.{is_left, reason_of}
use Rattle.td_plan.specs.Relations.{relation_of}
use Rattle.td_plan.specs.Waits.{Wait, awaited, is_waitless, moving_sources, waits_of}

-- ---- 1. the lines of a source

-- the sources of the part of s
abbrev pub is_beside : Placing → KeptSource → KeptSource → Bool
is_beside x s t = are_of_one_part x t.head.name s.head.name

-- the sources of the part of s among some
abbrev pub part_among : Placing → List KeptSource → KeptSource → List KeptSource
part_among x sources s = filter (is_beside x s) sources

-- a place of the table, and for what a source waits there
pub record WaitingAt : Type 0 where
  pub place : ℕ
  pub waits : List Wait

-- for what a source waits at a place
abbrev pub waiting_at : Placing → Premises → KeptSource → ℕ → WaitingAt
waiting_at x p s place = record { place = place; waits = waits_of (is_beside x s) p s place }

-- a source waits for something at a place
abbrev pub is_waiting : WaitingAt → Bool
is_waiting w = nat_lt 0 (length w.waits)

-- the places of a source's due rows at which it waits for something
abbrev pub all_waiting : Placing → Premises → KeptSource → List WaitingAt
all_waiting x p s = filter is_waiting (map (waiting_at x p s) (due_places p s))

-- the relation is the same at two places
abbrev pub is_alike : WaitingAt → WaitingAt → Bool
is_alike v w = bytes_eq (relation_of v.waits) (relation_of w.waits)

-- the comments of a place: a line for each wait for a package of an older version
abbrev pub check_lines : Premises → KeptSource → WaitingAt → List (List ℕ)
check_lines p s w = map (λ v. check_line (key_at p s w.place) v.name v.on)
    (filter (λ v. v.older) w.waits)

-- the names of architectures
abbrev pub arch_names : Premises → List ℕ → List (List ℕ)
arch_names p numbers = map (arch_at p.archive.table) numbers

-- the line of one relation with all places that have it, and their comments after it
abbrev pub relation_lines : Words → Premises → KeptSource → WaitingAt → List WaitingAt
    → List (List ℕ)
relation_lines words p s w mine =
    dw_line words s (arch_names p (map (λ v. v.place) mine)) (relation_of w.waits)
    ∷ flat_map (check_lines p s) mine

-- the lines of each relation, in the order of the first place that has it
abbrev pub dw_lines : Words → Premises → KeptSource → List WaitingAt → List WaitingAt
    → List (List ℕ)
dw_lines words p s before [] = []
dw_lines words p s before (w ∷ after) =
    (if list_any (is_alike w) before then []
    else relation_lines words p s w (filter (is_alike w) (w ∷ after)))
    ++ dw_lines words p s (before ++ w ∷ []) after

-- the comments on the sources for which another can't be told to wait at a place
abbrev pub no_wait_lines : Placing → Premises → KeptSource → ℕ → List (List ℕ)
no_wait_lines x p s place = map (λ t. no_wait_line (key_at p s place) t.head.name)
    (filter (is_waitless p s place) (awaited (is_beside x s) p s place))

-- all lines of a source that has a due row
abbrev pub source_lines : Words → Placing → Premises → KeptSource → List (List ℕ)
source_lines words x p s =
    nmu_line words s (number_of p s) (arch_names p (due_places p s))
    ∷ (dw_lines words p s [] (all_waiting x p s)
    ++ flat_map (no_wait_lines x p s) (due_places p s))

-- ---- 2. the lines of all sources

-- the sources of the part of s, of those that move in byte order
abbrev pub part_of : Placing → Premises → KeptSource → List KeptSource
part_of x p s = part_among x (moving_sources p) s

-- the comment before a part of several sources
abbrev pub part_lines : List KeptSource → List (List ℕ)
part_lines sources = if nat_lt 1 (length sources) then part_line (map name_of sources) ∷ [] else []

-- whether a source is of the same step, or the same part, as the last that has lines
abbrev pub is_same_step : Placing → Option KeptSource → KeptSource → Bool
is_same_step x last s = option_map_or (λ t. x.step t.head.name == x.step s.head.name) last false

abbrev pub is_same_part : Placing → Option KeptSource → KeptSource → Bool
is_same_part x last s = option_map_or (is_beside x s) last false

-- the comments before a source
abbrev pub lines_before : Placing → Premises → Option KeptSource → KeptSource → List (List ℕ)
lines_before x p last s =
    (if is_same_step x last s then [] else step_line (x.step s.head.name) ∷ [])
    ++ (if is_same_part x last s then [] else part_lines (part_of x p s))

-- the lines of sources, one after the other
abbrev pub lines_from : Words → Placing → Premises → Option KeptSource → List KeptSource
    → List (List ℕ)
lines_from words x p last [] = []
lines_from words x p last (s ∷ sources) =
    lines_before x p last s ++ (source_lines words x p s
    ++ lines_from words x p (Some s) sources)

-- the sources with a due row, in the order of their lines
abbrev pub due_sources : Placing → Premises → List KeptSource
due_sources x p = in_order (is_place_before x) (filter (has_due p) p.archive.sources)

-- ---- 3. what isn't planned

-- the line of a source's row at a place, if the row is wanted and not due
abbrev pub left_at : Premises → Key → Row → KeptSource → ℕ → Option (List ℕ)
left_at p k row s place = if is_left p s place
    then option_map (λ status. left_line k status row (reason_of p s place))
    (row_status p.archive p.tracker s place) else None

-- the line of a row by its key, if the row is wanted and not due
abbrev pub left_of : Premises → Key × Row → Option (List ℕ)
left_of p e = option_and_then (λ s. option_and_then (left_at p e.0 e.1 s)
    (place_of p.archive.table e.0.arch)) (source_named p.archive e.0.source)

-- ---- 4. the plan

-- all lines of a plan
abbrev pub plan_lines : Words → Placing → Premises → List (List ℕ)
plan_lines words x p = title_of p.tracker.title
    ++ (lines_from words x p None (due_sources x p) ++ filter_map (left_of p) p.rows)

-- a text is the plan
pub record IsPlan (words : Words) (p : Premises) (text : List ℕ) : Type 0 where
  pub placing : Placing
  pub placed : IsPlacing p placing
  pub written : text ≡ text_of (plan_lines words placing p)
