-- The names of faults, as they are printed. This project's own.
use Rattle.std.specs.Prelude.{ℕ, List, codes}
use Rattle.td_wbread.specs.declared.fault.LineFault.{LineFault}
use Rattle.td_wbread.specs.declared.fault.LineFault.TheVariants.{UnterminatedQuote, UnknownCommand}
use Rattle.td_wbread.specs.declared.fault.LineFault.TheVariants.{BadNumber, NoPackage, BadPackage}
use Rattle.td_wbread.specs.declared.fault.LineFault.TheVariants.{NoDot, NoArch, UnknownArch}
use Rattle.td_wbread.specs.declared.fault.LineFault.TheVariants.{UnknownSuite, BadRelation}
use Rattle.td_wbread.specs.declared.fault.LineFault.TheVariants.{MissingMessage, Extra}
use Rattle.td_wbread.specs.declared.fault.LineFault.TheVariants.{MissingValue}

-- the name that is printed after `refused: `
abbrev pub name_of : LineFault → List ℕ
name_of UnterminatedQuote = codes "UnterminatedQuote"
name_of UnknownCommand = codes "UnknownCommand"
name_of BadNumber = codes "BadNumber"
name_of NoPackage = codes "NoPackage"
name_of BadPackage = codes "BadPackage"
name_of NoDot = codes "NoDot"
name_of NoArch = codes "NoArch"
name_of UnknownArch = codes "UnknownArch"
name_of UnknownSuite = codes "UnknownSuite"
name_of BadRelation = codes "BadRelation"
name_of MissingMessage = codes "MissingMessage"
name_of Extra = codes "Extra"
name_of MissingValue = codes "MissingValue"
