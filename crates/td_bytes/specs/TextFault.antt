-- Why no text is read if no bytes are.
use Rattle.td_bytes.specs.declared.reading.ReadFault.{ReadFault}
use Rattle.td_bytes.specs.declared.reading.ReadFault.TheVariants as read
use Rattle.td_bytes.specs.declared.text.TextFault.{TextFault}
use Rattle.td_bytes.specs.declared.text.TextFault.TheVariants as text

-- the fault of the same name; this project's own
abbrev pub text_fault_of : ReadFault → TextFault
text_fault_of read.CannotRead = text.CannotRead
text_fault_of read.TooLong = text.TooLong
text_fault_of read.NoMemory = text.NoMemory
