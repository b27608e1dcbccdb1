-- The text of a simulation: opening rows, a line `steps`, and a line for each step.
-- This project's own.
use Rattle.std.specs.Prelude.{ℕ, ◌+◌, Bool, List, [], ◌∷◌, ◌++◌}
use Rattle.std.specs.Prelude.{if◌then◌else◌, codes}
use Rattle.std.specs.Str.{bytes_eq}
use Rattle.td_text.specs.Lines.{lines_of, ended}
use Rattle.td_text.specs.Spelled.{AreSpelled, IsFirstOther}
use Rattle.td_rows.specs.StateFile.{IsStateFile, IsFirstFault}
use Rattle.td_rows.specs.Table.{Table}
use Rattle.td_core.specs.declared.step.Step.{Step}
use Rattle.td_simulate.specs.declared.fault.SimulationFault.{SimulationFault}
use Rattle.td_simulate.specs.declared.fault.SimulationFault.TheVariants.{Opening, BadStep, NoMemory}
use Rattle.td_simulate.specs.StepLines.{step_line, StepFits}

-- the line that ends the opening rows
abbrev pub is_mark : List ℕ → Bool
is_mark line = bytes_eq line (codes "steps")

-- the part of a text before the line `steps`, by the text's lines; the whole text if there is none
unfoldable pub opening_text : List (List ℕ) → List ℕ
opening_text [] = []
opening_text (line ∷ []) = if is_mark line then [] else line
opening_text (line ∷ next ∷ lines) = if is_mark line then []
    else (line ++ 10 ∷ opening_text (next ∷ lines))

-- the lines after the line `steps`, the last of which may lack its newline; none if there is no
-- such line
unfoldable pub lines_after : List (List ℕ) → List (List ℕ)
lines_after [] = []
lines_after (line ∷ lines) = if is_mark line then ended lines else lines_after lines

-- the number of the line after the line `steps`; the first of the lines has the number given
unfoldable pub number_after : ℕ → List (List ℕ) → ℕ
number_after number [] = number
number_after number (line ∷ lines) = if is_mark line then number + 1
    else number_after (number + 1) lines

-- the lines are those of the steps
abbrev pub AreSteps : List (List ℕ) → List Step → Type 0
AreSteps lines steps = AreSpelled step_line StepFits lines steps

-- the rows with which a simulation opens, and its steps
pub record IsSimulation (text : List ℕ) (t : Table) (ss : List Step) : Type 0 where
  pub opening : IsStateFile (lines_of (opening_text (lines_of text))) t
  pub steps : AreSteps (lines_after (lines_of text)) ss

-- the first of the lines that isn't a step's; the first of all has the number given
abbrev pub IsFirstBad : ℕ → List (List ℕ) → ℕ → Type 0
IsFirstBad first lines number = IsFirstOther step_line StepFits first lines number

-- which faults the lines of steps have; the first of the lines has the number given
abbrev pub StepsFault : ℕ → List (List ℕ) → SimulationFault → Type 0
StepsFault first lines (Opening e) = ⊥
StepsFault first lines (BadStep number) = IsFirstBad first lines number
StepsFault first lines NoMemory = Unit {0}

-- the opening rows are those of a state file, and among the lines after `steps` the first that
-- isn't a step's has this number
pub record IsBadStep (text : List ℕ) (number : ℕ) : Type 0 where
  pub rows : Table
  pub opening : IsStateFile (lines_of (opening_text (lines_of text))) rows
  pub bad : IsFirstBad (number_after 1 (lines_of text)) (lines_after (lines_of text)) number

-- a fault is that of the first faulty line; `NoMemory` may be the answer for any text
abbrev pub FaultOf : List ℕ → SimulationFault → Type 0
FaultOf text (Opening e) = IsFirstFault (lines_of (opening_text (lines_of text))) e
FaultOf text (BadStep number) = IsBadStep text number
FaultOf text NoMemory = Unit {0}
