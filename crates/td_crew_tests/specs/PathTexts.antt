-- Files that have their paths as texts. This project's own.
use Rattle.std.specs.Prelude.{Bool, true, false, []}
use Rattle.td_bytes.specs.declared.text.TextFault.{TextFault}
use Rattle.td_bytes.specs.declared.text.TextFault.TheVariants.{CannotRead, TooLong, NotText}
use Rattle.td_bytes.specs.declared.text.TextFault.TheVariants.{NoMemory}
use Rattle.td_tool.specs.Desks.{DeskFiles}

-- whether a text isn't read for lack of room: it is longer than the limit, or than the memory
abbrev pub lacks_room : TextFault → Bool
lacks_room CannotRead = false
lacks_room TooLong = true
lacks_room NotText = false
lacks_room NoMemory = true

-- files in which no desk is kept: each may be refused for whatever reason
abbrev pub no_desks : DeskFiles
no_desks = record {
  found = λ path. record {
    honest = false;
    can_fail = false;
    disk = record { content = []; certain = []; loose = [] };
    past = [];
  };
  can_refuse = λ path waits why. true;
}
