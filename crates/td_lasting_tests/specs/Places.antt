-- A place with a file in memory. This project's own.
use Rattle.std.specs.Prelude.{false, [], Option, Some, None}
use Rattle.td_ledger.specs.Calls.{Known}
use Rattle.td_ledger.specs.Memory.{known_of}
use Rattle.td_ledger.specs.declared.memory.Memory.{Memory}

-- what is known of the file that is given, if one is
abbrev pub known_in : Option Memory → Known
known_in (Some memory) = known_of memory.present memory.past
known_in None = record {
  honest = false;
  can_fail = false;
  disk = record { content = []; certain = []; loose = [] };
  past = [];
}
