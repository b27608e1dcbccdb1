-- What a plan holds, and what its lines are by the numbers of the affected sources.
use Rattle.std.specs.Prelude.{◌≡◌, ℕ, ◌<◌, ◌==◌, [], ◌∷◌, ◌++◌, Bool, true, false, List, Option}
use Rattle.std.specs.Prelude.{None, Some}
use Rattle.std.specs.Prelude.{fold, length, option_map, slice_get, slice_index}
use Rattle.std.specs.Prelude.{if◌then◌else◌}
use Rattle.std.specs.List.{All, filter_map, position_or_len}
use Rattle.std.specs.Option.{option_and_then, option_map_or}
use Rattle.std.specs.Global.{Global}
use Rattle.std.specs.Str.{bytes_eq}
use Rattle.std.specs.String.{string_bytes}
use Rattle.std.specs.declared.string.String.{String}
use Rattle.td_text.specs.Lines.{text_of}
use Rattle.td_indices.specs.Archive.{source_named}
use Rattle.td_indices.specs.Sources.{KeptSource}
use Rattle.td_query.specs.Statuses.{is_affected}
use Rattle.td_plan.specs.declared.movers.Mover.{Mover}
use Rattle.td_plan.specs.declared.parts.Parts.{Parts}
use Rattle.td_plan.specs.declared.plan.Last.{Last}
use Rattle.td_plan.specs.declared.plan.Plan.{Plan}
use Rattle.td_plan.specs.Lines.{Words, step_line}
use Rattle.td_plan.specs.Placing.{IsPlacing, Placing}
use Rattle.td_plan.specs.Plan.{part_lines, source_lines}
use Rattle.td_plan.specs.Premises.{AreSound, PackagesAreApart, Premises}
use Rattle.td_plan.specs.inner.Askers.{AreAllAsks}
use Rattle.td_plan.specs.inner.Inputs.{AreFor}
use Rattle.td_plan.specs.inner.Movers.{AreMovers, IsMover, has_moving_motion, mover_name}
use Rattle.td_plan.specs.inner.Ordering.{ArePartsOf, position_of}
use Rattle.td_plan.specs.inner.Waiters.{kept_of}

-- ---- 1. a plan

-- the number of a name among the affected sources
abbrev pub number_among : List Mover → List ℕ → ℕ
number_among ms name = position_or_len (λ m. bytes_eq name (mover_name m)) ms

-- the name of the affected source with a number
abbrev pub name_at : List Mover → ℕ → List ℕ
name_at ms number = option_map_or mover_name (slice_get ms number) []

-- for each name the first source of its part, and its step, as the parts of the numbers have them
abbrev pub placing_of : List Mover → Parts → Placing
placing_of ms parts = record {
  first = λ name. name_at ms (slice_index parts.firsts.items (number_among ms name));
  step = λ name. slice_index parts.steps.items (number_among ms name);
}

-- the placing of a plan's affected sources
abbrev pub placing_in : Plan → Placing
placing_in plan = placing_of plan.movers.items plan.parts

-- a plan is of a plan's premises: it holds their affected sources, what these ask for, and the
-- parts of those that move
pub record IsPlanOf (p : Premises) (plan : Plan) : Type 0 where
  pub inputs : AreFor plan.inputs p
  pub sound : AreSound p
  pub apart : PackagesAreApart p
  pub movers : AreMovers p plan.movers.items
  pub asks : AreAllAsks p.archive plan.movers.items plan.asks.items
  pub parts : ArePartsOf (length plan.movers.items) plan.parts
  pub firsts : All (λ first. first < length plan.movers.items) plan.parts.firsts.items
  pub still : (k : ℕ) (m : Mover) → slice_get plan.movers.items k ≡ Some m
      → has_moving_motion m ≡ false → slice_index plan.parts.firsts.items k ≡ k
  pub placed : IsPlacing p (placing_in plan)

-- ---- 2. its lines

-- the sources with some numbers
abbrev pub sources_at : List Mover → List ℕ → List KeptSource
sources_at ms numbers = filter_map (λ n. option_map kept_of (slice_get ms n)) numbers

-- the comments before a source, by whether it is of the step and the part of the source before
abbrev pub before_lines : Bool → ℕ → Bool → List KeptSource → List (List ℕ)
before_lines same_step step same_part sources =
    (if same_step then [] else step_line step ∷ [])
    ++ (if same_part then [] else part_lines sources)

abbrev pub is_step : Option Last → ℕ → Bool
is_step last step = option_map_or (λ l. l.step == step) last false

abbrev pub is_part : Option Last → ℕ → Bool
is_part last first = option_map_or (λ l. l.first == first) last false

-- the step and the first source of the part of the source with a number, as the last one
abbrev pub last_at : Parts → ℕ → Last
last_at parts number = record {
  step = slice_index parts.steps.items number;
  first = slice_index parts.firsts.items number;
}

-- the number of the last of some positions
abbrev pub last_number : List (ℕ × ℕ × ℕ) → Option ℕ
last_number positions = fold (λ (last : Option ℕ) position. Some position.2) None positions

-- each position is that of a source that moves
pub record ArePositions (ms : List Mover) (parts : Parts)
    (positions : List (ℕ × ℕ × ℕ)) : Type 0 where
  pub is : All (λ q. q ≡ position_of parts q.2) positions
  pub moves : All (λ q. option_map_or has_moving_motion (slice_get ms q.2) false ≡ true) positions

-- the source with a number, if there is one
abbrev pub source_if : List Mover → Option ℕ → Option KeptSource
source_if ms number = option_and_then (λ n. option_map kept_of (slice_get ms n)) number

-- the text is the lines of the affected source with a number, if there is one that moves
abbrev pub IsTextAt : Words → Plan → ℕ → List ℕ → Type 0
IsTextAt w plan k text = (p : Premises) (m : Mover) → IsPlanOf p plan
    → slice_get plan.movers.items k ≡ Some m → has_moving_motion m ≡ true
    → text ≡ text_of (source_lines w (placing_in plan) p (kept_of m))

-- the texts are the lines of each affected source that moves, by its number
pub record AreTexts (w : Words) (plan : Plan) (texts : List (String Global)) : Type 0 where
  pub len : length texts ≡ length plan.movers.items
  pub at : (k : ℕ) (text : String Global) → slice_get texts k ≡ Some text
      → IsTextAt w plan k (string_bytes text)

-- ---- 3. the rows that aren't planned

-- for each source of the archive, by its number there, its number among the affected ones; a number
-- after the last of these if it isn't affected
pub record AreNumbers (ms : List Mover) (numbers : List ℕ) : Type 0 where
  pub of : (k : ℕ) (m : Mover) → slice_get ms k ≡ Some m → slice_get numbers m.number ≡ Some k
  pub at : (n k : ℕ) (m : Mover) → slice_get numbers n ≡ Some k → slice_get ms k ≡ Some m
      → m.number ≡ n

-- the affected source with a name was found, or there is none
abbrev pub IsMoverNamed : Premises → List Mover → List ℕ → Option Mover → Type 0
IsMoverNamed p ms name (Some m) = source_named p.archive name ≡ Some (kept_of m)
    × IsMover p m (kept_of m)
IsMoverNamed p ms name None = (s : KeptSource) → source_named p.archive name ≡ Some s
    → is_affected p.archive p.tracker s ≡ false
