-- The names of what is wrong with a state file. This project's own.
use Rattle.std.specs.Prelude.{ℕ, List, codes}
use Rattle.td_rows.specs.declared.state_file.StateFault.{StateFault}
use Rattle.td_rows.specs.declared.state_file.StateFault.TheVariants.{BadLine, Twice, NotOpening}
use Rattle.td_rows.specs.declared.state_file.StateFault.TheVariants.{TooManyRows, NoMemory}

abbrev pub name_of : StateFault → List ℕ
name_of (BadLine n) = codes "BadLine"
name_of (Twice n) = codes "Twice"
name_of (NotOpening n) = codes "NotOpening"
name_of TooManyRows = codes "TooManyRows"
name_of NoMemory = codes "NoMemory"
