-- The affected sources of a tracker over an archive, and their lines by their numbers.
use Rattle.std.specs.Prelude.{◌≡◌, ℕ, ◌+◌, ◌<◌, ◌≤◌, ◌==◌, ◌&&◌, Bool, List, [], ◌∷◌, Option}
use Rattle.std.specs.Prelude.{filter, length, map, slice_index, if◌then◌else◌}
use Rattle.std.specs.List.{All, flat_map, range_with_len}
use Rattle.td_indices.specs.Archive.{places_from}
use Rattle.td_indices.specs.Sources.{KeptSource}
use Rattle.td_query.specs.Tracking.{Tracking}
use Rattle.td_waves.specs.Graph.{bases_of, lists}
use Rattle.td_waves.specs.declared.level.Level.{Level}
use Rattle.td_waves.specs.declared.level.Level.TheVariants.{At, Cyclic}
use Rattle.td_report.specs.Report.{is_level}
use Rattle.td_report.specs.Transition.{IsAffected}
use Rattle.td_plan.specs.declared.parts.Parts.{Parts}
use Rattle.td_plan.specs.declared.steps.Grouped.{Grouped}
use Rattle.td_plan.specs.declared.steps.Steps.{Steps}
use Rattle.td_plan.specs.Placing.{IsPlacingOf}
use Rattle.td_plan.specs.Premises.{SourcesAreApart}
use Rattle.td_plan.specs.Steps.{part_in_line, part_with_reasons, step_words, under_head}
use Rattle.td_plan.specs.Why.{why_line}
use Rattle.td_plan.specs.inner.Askers.{AreAllAsks}
use Rattle.td_plan.specs.inner.Movers.{AreAffected, mover_name}
use Rattle.td_plan.specs.inner.Ordering.{ArePartsOf, members_at}
use Rattle.td_plan.specs.inner.Planned.{placing_of, sources_at}
use Rattle.td_plan.specs.inner.Waiters.{kept_of}

-- the affected sources of a tracker over an archive, what each asks the others for, and their parts
pub record IsStepsOf (t : Tracking) (steps : Steps) : Type 0 where
  pub apart : SourcesAreApart steps.archive.now
  pub sources : AreAffected steps.archive.now t steps.movers.items
  pub asks : AreAllAsks steps.archive.now steps.movers.items steps.asks.items
  pub parts : ArePartsOf (length steps.movers.items) steps.parts
  pub firsts : All (λ first. first < length steps.movers.items) steps.parts.firsts.items
  pub low : (k : ℕ) → slice_index steps.parts.steps.items k ≤ length steps.movers.items
  pub placed : IsPlacingOf (IsAffected steps.archive.now t) steps.archive.now
      (placing_of steps.movers.items steps.parts)

-- ---- 1. parts

-- the node with a number is the first of its part, and the part has this step
abbrev pub is_first_on : Parts → ℕ → ℕ → Bool
is_first_on parts step number = (slice_index parts.firsts.items number == number)
    && (slice_index parts.steps.items number == step)

-- the first nodes of the parts of a step, in their order
abbrev pub firsts_on : Parts → ℕ → List ℕ
firsts_on parts step =
    filter (is_first_on parts step) (range_with_len 0 (length parts.firsts.items))

-- for each step the first nodes of its parts
abbrev pub AreFirsts : Parts → List (List ℕ) → Type 0
AreFirsts parts firsts =
    (step : ℕ) → step ≤ length parts.firsts.items → bases_of firsts step ≡ firsts_on parts step

-- ---- 2. lines

-- the sources of a tracker's archive as the lines name them
abbrev pub kept_in : Steps → List KeptSource
kept_in steps = map kept_of steps.movers.items

-- the lines of a part: one, or one for each of its sources with what that builds on
abbrev pub part_lines : Bool → Steps → List KeptSource → List (List ℕ)
part_lines why steps part = if why
    then part_with_reasons steps.archive.now (kept_in steps) part
    else part_in_line part

-- the lines of the parts with these first nodes; a list has the members of each
abbrev pub parts_lines : Bool → Steps → List (List ℕ) → List ℕ → List (List ℕ)
parts_lines why steps members firsts = flat_map (λ first.
    part_lines why steps (sources_at steps.movers.items (bases_of members first))) firsts

-- the lines of a step, if it has parts
abbrev pub lines_of_step : Bool → Steps → List (List ℕ) → ℕ → List ℕ → List (List ℕ)
lines_of_step why steps members step firsts = if length firsts == 0 then []
    else step_words step ∷ parts_lines why steps members firsts

-- the lines of the step with a number, by the parts of the sources
abbrev pub lines_of_steps : Bool → Steps → ℕ → List (List ℕ)
lines_of_steps why steps step = if length (firsts_on steps.parts step) == 0 then []
    else step_words step ∷ flat_map (λ first. part_lines why steps (sources_at steps.movers.items
    (members_at steps.parts.firsts.items first))) (firsts_on steps.parts step)

-- the numbers of nodes are below that of the sources
abbrev pub AreSources : Steps → List ℕ → Type 0
AreSources steps numbers = All (λ n. n < length steps.movers.items) numbers

-- all members are below it
abbrev pub AreMembersOf : Steps → List (List ℕ) → Type 0
AreMembersOf steps members = (first : ℕ) → AreSources steps (bases_of members first)

-- ---- 3. levels

-- the numbers of the sources at a level
abbrev pub at_level : (List ℕ → Option Level) → Steps → Level → List ℕ
at_level level steps k =
    places_from (λ m. is_level k (level (mover_name m))) 0 steps.movers.items

-- the sources by their levels
pub record AreGrouped (level : List ℕ → Option Level) (depth : ℕ) (steps : Steps)
    (grouped : Grouped) : Type 0 where
  pub len : length grouped.levels.items ≡ depth
  pub levels : (n : ℕ) → n < depth
      → bases_of (lists grouped.levels.items) n ≡ at_level level steps (At (n + 1))
  pub cyclic : grouped.cyclic.items ≡ at_level level steps Cyclic

-- the lines of some sources under a head, if there are any
abbrev pub lines_under : Steps → List ℕ → List ℕ → List (List ℕ)
lines_under steps head numbers = under_head head
    (λ s. why_line steps.archive.now (kept_in steps) s ∷ []) (sources_at steps.movers.items numbers)
