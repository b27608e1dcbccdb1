-- What clauses know of the disk: nothing. This project's own.
use Rattle.std.specs.Prelude.{true, false, []}
use Rattle.td_ledger.specs.Calls.{Known}
use Rattle.td_tool.specs.Desks.{DeskFiles}

-- a file of the disk: what it holds isn't known, and each call may fail
abbrev pub unknown : Known
unknown = record {
  honest = false;
  can_fail = true;
  disk = record { content = []; certain = []; loose = [] };
  past = [];
}

-- the files of desks on the disk: each may be refused for whatever reason
abbrev pub unknown_desks : DeskFiles
unknown_desks = record { found = λ path. unknown; can_refuse = λ path waits why. true }
