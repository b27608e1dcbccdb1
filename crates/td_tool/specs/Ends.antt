-- What a simulation leaves on standard output, as it ends. This project's own.
use Rattle.std.specs.Prelude.{◌≡◌, ℕ, ◌≤◌, ◌<◌, true, false, List, length, Option, IfSome, IsUtf8}
use Rattle.std.specs.Io.KnownBytes.{Appends, Keeps}
use Rattle.td_bytes.specs.Pieces.{AppendsPrefix}
use Rattle.td_rows.specs.Table.{Table}
use Rattle.td_core.specs.declared.step.Step.{Step}
use Rattle.td_simulate.specs.declared.fault.SimulationFault.TheVariants as fault
use Rattle.td_simulate.specs.Output.{output, any_refused}
use Rattle.td_simulate.specs.SimulationText.{IsSimulation, FaultOf}
use Rattle.td_tool.specs.Limits.{input_limit}
use Rattle.td_tool.specs.declared.input_fault.InputFault.{InputFault}
use Rattle.td_tool.specs.declared.input_fault.InputFault.TheVariants.{TooLong, NotText, Simulation}
use Rattle.td_tool.specs.declared.input_fault.InputFault.TheVariants as refused
use Rattle.td_inputs.specs.declared.role.Role.TheVariants.{Input}
use Rattle.td_tool.specs.declared.ending.Ending.{Ending}
use Rattle.td_tool.specs.declared.ending.Ending.TheVariants.{Done, Refused, BadInput, NoMemory}
use Rattle.td_tool.specs.declared.ending.Ending.TheVariants.{CannotRead, CannotWrite}
use Rattle.td_tool.specs.declared.ending.Ending.TheVariants.{Locked, CannotKeep}

-- a text that is read: within the limit, and UTF-8
abbrev pub IsText : List ℕ → Type 0
IsText input = (length input ≤ input_limit) × IsUtf8 input

-- the input is refused for this
abbrev pub HasFault : List ℕ → InputFault → Type 0
HasFault input TooLong = input_limit < length input
HasFault input NotText = (length input ≤ input_limit) × ¬ IsUtf8 input
HasFault input (Simulation fault.NoMemory) = ⊥
HasFault input (Simulation e) = IsText input × FaultOf input e
HasFault input (refused.BadOutcome n) = ⊥
HasFault input (refused.Form e) = ⊥
HasFault input (refused.DeskFile e) = ⊥

-- these rows and steps were read, from all that the reader had
pub record WereRead (known : Option (List ℕ)) (rows : Table) (steps : List Step) : Type 0 where
  pub input : List ℕ
  pub whole : IfSome known (λ all. all ≡ input)
  pub text : IsText input
  pub simulation : IsSimulation input rows steps

-- a simulation of these rows and steps ends so, and leaves that: its whole output, a front of it
-- if the writer failed, nothing if reading or memory did
abbrev pub EndsAs : Table → List Step → Option (List ℕ) → Option (List ℕ) → Ending → Type 0
EndsAs rows steps old new Done =
    (any_refused rows steps ≡ false) × Appends old new (output rows steps)
EndsAs rows steps old new Refused =
    (any_refused rows steps ≡ true) × Appends old new (output rows steps)
EndsAs rows steps old new (BadInput role e) = ⊥
EndsAs rows steps old new NoMemory = Keeps old new
EndsAs rows steps old new (CannotRead role) = Keeps old new
EndsAs rows steps old new CannotWrite = AppendsPrefix old new (output rows steps)
EndsAs rows steps old new Locked = ⊥
EndsAs rows steps old new CannotKeep = ⊥

-- what was read is a simulation, and it ends so
abbrev pub Plays : Option (List ℕ) → Option (List ℕ) → Option (List ℕ) → Ending → Type 0
Plays known old new ending =
    (rows : Table) × (steps : List Step) × WereRead known rows steps
    × EndsAs rows steps old new ending

-- what an ending says of what was read and written
abbrev pub Says : Option (List ℕ) → Option (List ℕ) → Option (List ℕ) → Ending → Type 0
Says known old new Done = Plays known old new Done
Says known old new Refused = Plays known old new Refused
Says known old new (BadInput role e) =
    (role ≡ Input) × IfSome known (λ input. HasFault input e) × Keeps old new
Says known old new NoMemory = Keeps old new
Says known old new (CannotRead role) = (role ≡ Input) × Keeps old new
Says known old new CannotWrite = Plays known old new CannotWrite
Says known old new Locked = ⊥
Says known old new CannotKeep = ⊥

-- a run ends so: the ending is as it says, and a simulation ends as one
pub record Ends (known old new : Option (List ℕ)) (ending : Ending) : Type 0 where
  pub says : Says known old new ending
  pub only : (rows : Table) (steps : List Step)
      → IfSome known (λ input.
      IsText input → IsSimulation input rows steps → EndsAs rows steps old new ending)
