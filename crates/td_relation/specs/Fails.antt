-- Faults; the one of memory may be the answer for any text. This project's own.
use Rattle.std.specs.Prelude.{◌≡◌, Result, Err}
use Rattle.td_relation.specs.declared.archs.ArchsFault.{ArchsFault}
use Rattle.td_relation.specs.declared.archs.ArchsFault.TheVariants.{BadLine, Twice, TooMany}
use Rattle.td_relation.specs.declared.archs.ArchsFault.TheVariants.{NoMemory}

-- a fault is the reading's; `NoMemory` may be the answer for any reading
abbrev pub Fails : {A : Type 0} → ArchsFault → Result A ArchsFault → Type 0
Fails NoMemory read = Unit {0}
Fails (BadLine n) read = read ≡ Err (BadLine n)
Fails (Twice n) read = read ≡ Err (Twice n)
Fails TooMany read = read ≡ Err TooMany
