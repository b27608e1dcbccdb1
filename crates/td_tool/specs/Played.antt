-- How a simulation ends by what was read of standard input. This project's own.
use Rattle.std.specs.Prelude.{◌≡◌, ℕ, true, false, List, Option, Some, None, Result, Ok, Err}
use Rattle.std.specs.Prelude.{String, string_bytes}
use Rattle.std.specs.declared.alloc.Global.{Global}
use Rattle.std.specs.Io.KnownBytes.{Appends, Keeps}
use Rattle.td_bytes.specs.Pieces.{AppendsPrefix}
use Rattle.td_bytes.specs.declared.text.TextFault.{TextFault}
use Rattle.td_rows.specs.Table.{Table}
use Rattle.td_core.specs.declared.step.Step.{Step}
use Rattle.td_simulate.specs.declared.fault.SimulationFault.{SimulationFault}
use Rattle.td_simulate.specs.declared.fault.SimulationFault.TheVariants as fault
use Rattle.td_simulate.specs.declared.simulation.Simulated.{Simulated}
use Rattle.td_simulate.specs.SimulationText.{IsSimulation, FaultOf}
use Rattle.td_tool.specs.declared.input_fault.InputFault.{InputFault}
use Rattle.td_tool.specs.declared.input_fault.InputFault.TheVariants.{TooLong, NotText, Simulation}
use Rattle.td_tool.specs.declared.input_fault.InputFault.TheVariants as refused
use Rattle.td_inputs.specs.declared.role.Role.TheVariants.{Input}
use Rattle.td_tool.specs.declared.ending.Ending.{Ending}
use Rattle.td_tool.specs.declared.ending.Ending.TheVariants.{Done, Refused, BadInput, NoMemory}
use Rattle.td_tool.specs.declared.ending.Ending.TheVariants.{CannotRead, CannotWrite}
use Rattle.td_tool.specs.declared.ending.Ending.TheVariants.{Locked, CannotKeep}
use Rattle.td_tool.specs.Ending.{ending_of_text, ending_of_simulation}
use Rattle.td_tool.specs.Ends.{EndsAs}

-- ---- 1. by what was told

-- the text of this simulation is written so: whole, or a front of it if the writer failed
abbrev pub TellsSo : Simulated → Option (List ℕ) → Option (List ℕ) → Ending → Type 0
TellsSo told old new Done = (told.refused ≡ false) × Appends old new (string_bytes told.text)
TellsSo told old new Refused = (told.refused ≡ true) × Appends old new (string_bytes told.text)
TellsSo told old new (BadInput role e) = ⊥
TellsSo told old new NoMemory = ⊥
TellsSo told old new (CannotRead role) = ⊥
TellsSo told old new CannotWrite = AppendsPrefix old new (string_bytes told.text)
TellsSo told old new Locked = ⊥
TellsSo told old new CannotKeep = ⊥

-- there is no simulation, for this, and nothing is written
pub record IsUntold (fault : SimulationFault) (old new : Option (List ℕ))
    (ending : Ending) : Type 0 where
  pub ends : ending ≡ ending_of_simulation fault
  pub kept : Keeps old new

-- ---- 2. by the text

-- the text is a simulation, and it ends so
abbrev pub PlaysText : List ℕ → Option (List ℕ) → Option (List ℕ) → Ending → Type 0
PlaysText text old new ending =
    (rows : Table) × (steps : List Step) × IsSimulation text rows steps
    × EndsAs rows steps old new ending

-- the text is no simulation, for this
abbrev pub IsNoSimulation : List ℕ → InputFault → Type 0
IsNoSimulation text TooLong = ⊥
IsNoSimulation text NotText = ⊥
IsNoSimulation text (Simulation fault.NoMemory) = ⊥
IsNoSimulation text (Simulation e) = FaultOf text e
IsNoSimulation text (refused.BadOutcome n) = ⊥
IsNoSimulation text (refused.Form e) = ⊥
IsNoSimulation text (refused.DeskFile e) = ⊥

-- what an ending says of a text: it was read, so no read has failed
abbrev pub TextSays : List ℕ → Option (List ℕ) → Option (List ℕ) → Ending → Type 0
TextSays text old new Done = PlaysText text old new Done
TextSays text old new Refused = PlaysText text old new Refused
TextSays text old new (BadInput role e) = (role ≡ Input) × IsNoSimulation text e × Keeps old new
TextSays text old new NoMemory = Keeps old new
TextSays text old new (CannotRead role) = ⊥
TextSays text old new CannotWrite = PlaysText text old new CannotWrite
TextSays text old new Locked = ⊥
TextSays text old new CannotKeep = ⊥

-- a text ends the run so: the ending is as it says, and a simulation ends as one
pub record TextEnds (text : List ℕ) (old new : Option (List ℕ)) (ending : Ending) : Type 0 where
  pub says : TextSays text old new ending
  pub only : (rows : Table) (steps : List Step) → IsSimulation text rows steps
      → EndsAs rows steps old new ending

-- no text was read, for this, and nothing is written
pub record IsUnread (fault : TextFault) (old new : Option (List ℕ)) (ending : Ending) : Type 0 where
  pub ends : ending ≡ ending_of_text fault
  pub kept : Keeps old new

-- the text that is kept: that which was read
abbrev pub kept_of : Result (String Global) TextFault → Option (String Global)
kept_of (Ok text) = Some text
kept_of (Err fault) = None
