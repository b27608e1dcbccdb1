-- The names of the faults of a simulation's text. This project's own.
use Rattle.std.specs.Prelude.{ℕ, List, codes}
use Rattle.td_rows.specs.declared.state_file.StateFault.{StateFault}
use Rattle.td_rows.specs.declared.state_file.StateFault.TheVariants as state
use Rattle.td_rows.specs.FaultNames as state_fault
use Rattle.td_simulate.specs.declared.fault.SimulationFault.{SimulationFault}
use Rattle.td_simulate.specs.declared.fault.SimulationFault.TheVariants.{Opening, BadStep, NoMemory}

-- a fault of the opening rows as one of the whole
abbrev pub of_opening : StateFault → SimulationFault
of_opening state.NoMemory = NoMemory
of_opening e = Opening e

-- the name of a fault of a simulation
abbrev pub fault_name : SimulationFault → List ℕ
fault_name (Opening e) = state_fault.name_of e
fault_name (BadStep n) = codes "BadLine"
fault_name NoMemory = codes "NoMemory"
