-- The faults of the calls below, as those of this crate name them. This project's own.
use Rattle.td_ledger.specs.declared.reading.OpenFault.{OpenFault}
use Rattle.td_ledger.specs.declared.reading.OpenFault.TheVariants as opening
use Rattle.td_lasting.specs.declared.chronicle.DeskFault.{DeskFault}
use Rattle.td_lasting.specs.declared.chronicle.DeskFault.TheVariants as desk
use Rattle.td_lasting.specs.declared.file_fault.FileFault.{FileFault}
use Rattle.td_lasting.specs.declared.file_fault.FileFault.TheVariants as file
use Rattle.td_lasting.specs.declared.framing.FrameFault.{FrameFault}
use Rattle.td_lasting.specs.declared.framing.FrameFault.TheVariants as frame
use Rattle.td_lasting.specs.declared.serving.ServeFault.{ServeFault}
use Rattle.td_lasting.specs.declared.serving.ServeFault.TheVariants as serve

-- why a ledger's file isn't read
abbrev pub of_opening : OpenFault → FileFault
of_opening opening.CannotRead = file.CannotRead
of_opening opening.BadHeader = file.BadHeader
of_opening opening.NotText = file.NotText
of_opening opening.NoMemory = file.NoMemory

-- why a line isn't read
abbrev pub of_frame : FrameFault → ServeFault
of_frame frame.CannotRead = serve.CannotRead
of_frame frame.NoMemory = serve.NoMemory

-- why a line isn't answered
abbrev pub of_desk : DeskFault → ServeFault
of_desk desk.NoMemory = serve.NoMemory
of_desk desk.CannotWrite = serve.CannotKeep
of_desk desk.Stopped = serve.CannotKeep
