-- The names of a table's faults, as they are printed. This project's own.
use Rattle.std.specs.Prelude.{ℕ, List, codes}
use Rattle.td_relation.specs.declared.archs.ArchsFault.{ArchsFault}
use Rattle.td_relation.specs.declared.archs.ArchsFault.TheVariants.{BadLine, Twice, TooMany}
use Rattle.td_relation.specs.declared.archs.ArchsFault.TheVariants.{NoMemory}

-- only the name of a fault, without the line
abbrev pub name_of : ArchsFault → List ℕ
name_of (BadLine number) = codes "BadLine"
name_of (Twice number) = codes "Twice"
name_of TooMany = codes "TooMany"
name_of NoMemory = codes "NoMemory"
