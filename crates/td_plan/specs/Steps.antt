-- What `waves` prints by `--steps`, by `--why`, and by both. This project's own.
use Rattle.std.specs.Prelude.{◌≡◌, ℕ, ◌≤◌, ◌==◌, ◌&&◌, Bool, List, [], ◌∷◌, ◌++◌, Option, codes}
use Rattle.std.specs.Prelude.{decimal, filter, length, map, if◌then◌else◌}
use Rattle.std.specs.List.{Contains, flat_map, range_with_len}
use Rattle.std.specs.Str.{bytes_eq}
use Rattle.td_text.specs.Lines.{text_of}
use Rattle.td_indices.specs.Archive.{Contents}
use Rattle.td_indices.specs.Sources.{KeptSource}
use Rattle.td_query.specs.Statuses.{is_affected}
use Rattle.td_query.specs.Tracking.{Tracking}
use Rattle.td_waves.specs.declared.level.Level.{Level}
use Rattle.td_report.specs.Report.{is_level, level_words, levels}
use Rattle.td_report.specs.Transition.{AreLevels, IsAffected}
use Rattle.td_plan.specs.Lines.{spaced}
use Rattle.td_plan.specs.Placing.{IsPlacingOf, Placing}
use Rattle.td_plan.specs.Plan.{part_among}
use Rattle.td_plan.specs.Premises.{name_of}
use Rattle.td_plan.specs.Waits.{sources_where}
use Rattle.td_plan.specs.Why.{why_line}

-- the affected sources, in byte order
abbrev pub affected_sources : Contents → Tracking → List KeptSource
affected_sources a t = sources_where (is_affected a t) a

-- a line over the lines of some sources; nothing if there are no sources
abbrev pub under_head : List ℕ → (KeptSource → List (List ℕ)) → List KeptSource → List (List ℕ)
under_head head lines mine = if length mine == 0 then [] else head ∷ flat_map lines mine

-- ---- 1. by levels

-- the sources among some at a level, each with what it builds on
abbrev pub level_lines : Contents → (List ℕ → Option Level) → List KeptSource → Level
    → List (List ℕ)
level_lines a level sources k = under_head (level_words k) (λ s. why_line a sources s ∷ [])
    (filter (λ s. is_level k (level s.head.name)) sources)

-- a text is that of `waves --why`: the affected sources by level, each with what it builds on
pub record IsWavesWhy (a : Contents) (t : Tracking) (text : List ℕ) : Type 0 where
  pub level : List ℕ → Option Level
  pub depth : ℕ
  pub leveled : AreLevels a t level depth
  pub written : text
      ≡ text_of (flat_map (level_lines a level (affected_sources a t)) (levels depth))

-- ---- 2. by steps

-- a source is the first of its part, and the part has this step
abbrev pub begins_part : Placing → ℕ → KeptSource → Bool
begins_part x step s = bytes_eq s.head.name (x.first s.head.name) && (x.step s.head.name == step)

-- the line over the parts of a step
abbrev pub step_words : ℕ → List ℕ
step_words step = codes "step " ++ decimal step

-- the lines of a step: of each of its parts, in the order of their first sources
abbrev pub step_lines : (List KeptSource → List (List ℕ)) → Placing → List KeptSource → ℕ
    → List (List ℕ)
step_lines lines x sources step =
    under_head (step_words step) (λ s. lines (part_among x sources s))
    (filter (begins_part x step) sources)

-- a text has the affected sources by steps, each part by its lines
pub record IsBySteps (lines : List KeptSource → List (List ℕ)) (a : Contents) (t : Tracking)
    (text : List ℕ) : Type 0 where
  pub placing : Placing
  pub placed : IsPlacingOf (IsAffected a t) a placing
  pub last : ℕ
  pub within : (s : KeptSource) → Contains (affected_sources a t) s
      → placing.step s.head.name ≤ last
  pub written : text ≡ text_of
      (flat_map (step_lines lines placing (affected_sources a t)) (range_with_len 1 last))

-- a part on one line: its sources in byte order
abbrev pub part_in_line : List KeptSource → List (List ℕ)
part_in_line part = spaced (map name_of part) ∷ []

-- a part source by source, each with what it builds on among some sources
abbrev pub part_with_reasons : Contents → List KeptSource → List KeptSource → List (List ℕ)
part_with_reasons a sources part = map (why_line a sources) part

-- a text is that of `waves --steps`
abbrev pub IsSteps : Contents → Tracking → List ℕ → Type 0
IsSteps a t text = IsBySteps part_in_line a t text

-- a text is that of `waves --steps --why`
abbrev pub IsStepsWhy : Contents → Tracking → List ℕ → Type 0
IsStepsWhy a t text = IsBySteps (part_with_reasons a (affected_sources a t)) a t text
