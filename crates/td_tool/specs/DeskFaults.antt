-- What is wrong with a desk's file: the names, the places, and what is wanted instead. This
-- project's own.
use Rattle.std.specs.Prelude.{ℕ, List, [], codes}
use Rattle.td_explain.specs.declared.spot.Place.{Place}
use Rattle.td_explain.specs.declared.spot.Place.TheVariants.{Whole, Line}
use Rattle.td_lasting.specs.declared.file_fault.FileFault.{FileFault}
use Rattle.td_lasting.specs.declared.file_fault.FileFault.TheVariants.{NotText, BadHeader}
use Rattle.td_lasting.specs.declared.file_fault.FileFault.TheVariants.{OtherRows, BadLine, Unlawful}
use Rattle.td_lasting.specs.declared.file_fault.FileFault.TheVariants.{CannotRead, CannotWrite}
use Rattle.td_lasting.specs.declared.file_fault.FileFault.TheVariants.{NoMemory}

-- the name; a device that fails, and missing memory, are no faults of the file's text
abbrev pub desk_file_name : FileFault → List ℕ
desk_file_name NotText = codes "NotText"
desk_file_name BadHeader = codes "BadHeader"
desk_file_name OtherRows = codes "OtherRows"
desk_file_name (BadLine n) = codes "BadLine"
desk_file_name (Unlawful n) = codes "Unlawful"
desk_file_name CannotRead = []
desk_file_name CannotWrite = []
desk_file_name NoMemory = []

-- the line of the file: the header is the first
abbrev pub place_in_desk_file : FileFault → Place
place_in_desk_file NotText = Whole
place_in_desk_file BadHeader = Line 1
place_in_desk_file OtherRows = Line 1
place_in_desk_file (BadLine n) = Line n
place_in_desk_file (Unlawful n) = Line n
place_in_desk_file CannotRead = Whole
place_in_desk_file CannotWrite = Whole
place_in_desk_file NoMemory = Whole

-- what is wanted instead
abbrev pub wanted_desk_file : FileFault → List ℕ
wanted_desk_file NotText = codes "a text in UTF-8"
wanted_desk_file BadHeader = codes "a desk's header line with its newline, as transdesk desk 1 HASH"
wanted_desk_file OtherRows =
    codes "the indices, the table and the state file that the desk was begun over"
wanted_desk_file (BadLine n) = codes "the next entry or an undo, as docs/FORMATS.md has desks"
wanted_desk_file (Unlawful n) =
    codes "an entry that applies on the rows, or an undo that no later entry blocks"
wanted_desk_file CannotRead = []
wanted_desk_file CannotWrite = []
wanted_desk_file NoMemory = []
