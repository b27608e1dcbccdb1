-- Which endings tell of a file that isn't read. This project's own.
use Rattle.std.specs.Prelude.{◌&&◌, Bool, true, false}
use Rattle.td_inputs.specs.declared.role.Role.{Role}
use Rattle.td_inputs.specs.declared.role.Role.TheVariants.{Input}
use Rattle.td_tool.specs.declared.ending.Ending.{Ending}
use Rattle.td_tool.specs.declared.ending.Ending.TheVariants.{Done, Refused, BadInput, NoMemory}
use Rattle.td_tool.specs.declared.ending.Ending.TheVariants.{CannotRead, CannotWrite}
use Rattle.td_tool.specs.declared.ending.Ending.TheVariants.{Locked, CannotKeep}
use Rattle.td_tool.specs.declared.input_fault.InputFault.{InputFault}
use Rattle.td_tool.specs.declared.input_fault.InputFault.TheVariants.{NotText, TooLong, Simulation}
use Rattle.td_tool.specs.declared.input_fault.InputFault.TheVariants.{BadOutcome, DeskFile, Form}

-- a role is that of a file, and not of standard input
abbrev pub is_of_file : Role → Bool
is_of_file Input = false
is_of_file role = true

-- a text isn't UTF-8
abbrev pub is_no_text : InputFault → Bool
is_no_text TooLong = false
is_no_text NotText = true
is_no_text (Simulation e) = false
is_no_text (BadOutcome n) = false
is_no_text (Form e) = false
is_no_text (DeskFile e) = false

-- an ending tells that a file isn't read, or isn't UTF-8
abbrev pub tells_of_unread_file : Ending → Bool
tells_of_unread_file Done = false
tells_of_unread_file Refused = false
tells_of_unread_file (BadInput role e) = is_no_text e && is_of_file role
tells_of_unread_file NoMemory = false
tells_of_unread_file (CannotRead role) = is_of_file role
tells_of_unread_file CannotWrite = false
tells_of_unread_file Locked = false
tells_of_unread_file CannotKeep = false
