-- The names of an archive's faults, as they are printed. This project's own.
use Rattle.std.specs.Prelude.{ℕ, List, codes}
use Rattle.td_indices.specs.declared.archive_fault.ArchiveFault.{ArchiveFault}
use Rattle.td_indices.specs.declared.archive_fault.ArchiveFault.TheVariants.{Stanza, MissingField}
use Rattle.td_indices.specs.declared.archive_fault.ArchiveFault.TheVariants.{BadVersion}
use Rattle.td_indices.specs.declared.archive_fault.ArchiveFault.TheVariants.{BadRelation}
use Rattle.td_indices.specs.declared.archive_fault.ArchiveFault.TheVariants.{TooManyRows, NoMemory}

-- only the name of a fault, without the place and the field
abbrev pub name_of : ArchiveFault → List ℕ
name_of (Stanza file fault) = codes "Stanza"
name_of (MissingField file number field) = codes "MissingField"
name_of (BadVersion file number field) = codes "BadVersion"
name_of (BadRelation file number field) = codes "BadRelation"
name_of TooManyRows = codes "TooManyRows"
name_of NoMemory = codes "NoMemory"
