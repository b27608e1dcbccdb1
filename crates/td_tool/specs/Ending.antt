-- How the program ends: its status, and the line on standard error. This project's own.
use Rattle.std.specs.Prelude.{ℕ, List, [], ◌++◌, codes}
use Rattle.td_bytes.specs.declared.text.TextFault.{TextFault}
use Rattle.td_bytes.specs.declared.text.TextFault.TheVariants as text
use Rattle.td_relation.specs.declared.archs.ArchsFault.TheVariants as table
use Rattle.td_indices.specs.declared.archive_fault.ArchiveFault.TheVariants as archive
use Rattle.td_rows.specs.declared.state_file.StateFault.TheVariants as state
use Rattle.td_query.specs.declared.tracker_fault.TrackerFault.TheVariants as tracker
use Rattle.td_journal.specs.declared.journal_fault.ReadError.TheVariants as journal
use Rattle.td_simulate.specs.declared.fault.SimulationFault.{SimulationFault}
use Rattle.td_simulate.specs.declared.fault.SimulationFault.TheVariants as simulation
use Rattle.td_simulate.specs.Faults.{fault_name}
use Rattle.td_inputs.specs.declared.form_fault.FormFault.{FormFault}
use Rattle.td_inputs.specs.declared.form_fault.FormFault.TheVariants as form
use Rattle.td_inputs.specs.declared.open_fault.OpenFault.{OpenFault}
use Rattle.td_inputs.specs.declared.open_fault.OpenFault.TheVariants as opening
use Rattle.td_script.specs.declared.running.RunFault.{RunFault}
use Rattle.td_script.specs.declared.running.RunFault.TheVariants as stopped
use Rattle.td_inputs.specs.Faults as form_fault
use Rattle.td_inputs.specs.Faults.{label_of, role_of}
use Rattle.td_tool.specs.DeskFaults.{desk_file_name}
use Rattle.td_inputs.specs.declared.role.Role.{Role}
use Rattle.td_inputs.specs.declared.role.Role.TheVariants as role
use Rattle.td_tool.specs.declared.input_fault.InputFault.{InputFault}
use Rattle.td_tool.specs.declared.input_fault.InputFault.TheVariants.{TooLong, NotText, Simulation}
use Rattle.td_tool.specs.declared.input_fault.InputFault.TheVariants.{BadOutcome, DeskFile, Form}
use Rattle.td_tool.specs.declared.ending.Ending.{Ending}
use Rattle.td_tool.specs.declared.ending.Ending.TheVariants.{Done, Refused, BadInput, NoMemory}
use Rattle.td_tool.specs.declared.ending.Ending.TheVariants.{CannotRead, CannotWrite}
use Rattle.td_tool.specs.declared.ending.Ending.TheVariants.{Locked, CannotKeep}

-- ---- 1. a text is refused

-- how a run ends if no text is read from standard input
abbrev pub ending_of_text : TextFault → Ending
ending_of_text text.CannotRead = CannotRead role.Input
ending_of_text text.TooLong = BadInput role.Input TooLong
ending_of_text text.NotText = BadInput role.Input NotText
ending_of_text text.NoMemory = NoMemory

-- how a run ends if a text is no simulation
abbrev pub ending_of_simulation : SimulationFault → Ending
ending_of_simulation simulation.NoMemory = NoMemory
ending_of_simulation e = BadInput role.Input (Simulation e)

-- how a run ends if no text is read from a file; one that is too long can't be read
abbrev pub ending_of_file : Role → TextFault → Ending
ending_of_file r text.CannotRead = CannotRead r
ending_of_file r text.TooLong = CannotRead r
ending_of_file r text.NotText = BadInput r NotText
ending_of_file r text.NoMemory = NoMemory

-- how a run ends if a text isn't of its form; missing memory is no fault of the text
abbrev pub ending_of_form : FormFault → Ending
ending_of_form (form.Table table.NoMemory) = NoMemory
ending_of_form (form.Archive archive.NoMemory) = NoMemory
ending_of_form (form.State state.NoMemory) = NoMemory
ending_of_form (form.Tracker tracker.NoMemory) = NoMemory
ending_of_form (form.Journal journal.NoMemory) = NoMemory
ending_of_form e = BadInput (role_of e) (Form e)

-- how a run ends if its texts aren't opened
abbrev pub ending_of_opening : OpenFault → Ending
ending_of_opening (opening.Refused e) = ending_of_form e
ending_of_opening opening.NoMemory = NoMemory

-- how a run ends if its script stopped
abbrev pub ending_of_stop : RunFault → Ending
ending_of_stop (stopped.Input e) = ending_of_form e
ending_of_stop stopped.Read = CannotRead role.Input
ending_of_stop stopped.TooLong = BadInput role.Input TooLong
ending_of_stop stopped.NotText = BadInput role.Input NotText
ending_of_stop stopped.Write = CannotWrite
ending_of_stop stopped.NoMemory = NoMemory

-- ---- 2. the status and the line

-- the name of what is wrong with a text
abbrev pub input_fault_name : InputFault → List ℕ
input_fault_name TooLong = codes "TooLong"
input_fault_name NotText = codes "NotText"
input_fault_name (Simulation e) = fault_name e
input_fault_name (BadOutcome n) = codes "BadLine"
input_fault_name (Form e) = form_fault.fault_name e
input_fault_name (DeskFile e) = desk_file_name e

-- the status; 3 is for words that ask for nothing that can be done
abbrev pub status_of : Ending → ℕ
status_of Done = 0
status_of Refused = 1
status_of (BadInput r e) = 2
status_of NoMemory = 4
status_of (CannotRead r) = 5
status_of CannotWrite = 5
status_of Locked = 5
status_of CannotKeep = 5

-- a line that says what went wrong, and in which part
abbrev pub line_with : List ℕ → List ℕ → List ℕ
line_with place what = codes "transdesk: " ++ (place ++ (what ++ codes "\n"))

-- all that is written on standard error: one line, or nothing
abbrev pub line_of : Ending → List ℕ
line_of Done = []
line_of Refused = []
line_of (BadInput r e) = line_with (label_of r) (input_fault_name e)
line_of NoMemory = line_with [] (codes "want of memory")
line_of (CannotRead r) = line_with (label_of r) (codes "cannot read")
line_of CannotWrite = line_with [] (codes "cannot write")
line_of Locked = line_with (label_of role.Journal) (codes "Locked")
line_of CannotKeep = line_with (label_of role.Journal) (codes "cannot write")
