-- `Ending::tell`: the clauses `whole` and `prefix`.
use Rattle.td_tool.proofs.ending.Ending.tell.Goals as goal

pub returns-in-CannotRead-clause-whole : goal.returns-in-CannotRead-clause-whole
returns-in-CannotRead-clause-whole g c =
    rw (
      c.in-CannotRead.is,
      ← c.label-in-CannotRead.ensures,
      ← c.as_bytes-in-CannotRead.ensures.value,
    ) c.write_line-in-CannotRead.ensures.whole

pub returns-in-CannotRead-clause-prefix : goal.returns-in-CannotRead-clause-prefix
returns-in-CannotRead-clause-prefix g c =
    rw (
      c.in-CannotRead.is,
      ← c.label-in-CannotRead.ensures,
      ← c.as_bytes-in-CannotRead.ensures.value,
    ) c.write_line-in-CannotRead.ensures.prefix

pub returns-in-CannotWrite-clause-whole : goal.returns-in-CannotWrite-clause-whole
returns-in-CannotWrite-clause-whole g c =
    rw c.in-CannotWrite.is c.write_line-in-CannotWrite.ensures.whole

pub returns-in-Locked-clause-whole : goal.returns-in-Locked-clause-whole
returns-in-Locked-clause-whole g c =
    rw c.in-Locked.is c.write_line-in-Locked.ensures.whole

pub returns-in-CannotKeep-clause-whole : goal.returns-in-CannotKeep-clause-whole
returns-in-CannotKeep-clause-whole g c =
    rw c.in-CannotKeep.is c.write_line-in-CannotKeep.ensures.whole
