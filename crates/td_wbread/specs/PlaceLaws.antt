-- Where the faults of a command line lie. This project's own.
use Rattle.std.specs.Prelude.{◌≡◌, ℕ, ◌≤◌, List, Err, length}
use Rattle.td_relation.specs.Arch.{ArchWords}
use Rattle.td_wbread.specs.declared.fault.CommandFault.TheVariants.{Wrong}
use Rattle.td_wbread.specs.declared.fault.LineFault.{LineFault}
use Rattle.td_wbread.specs.Command.{command_at}

-- the place of a line's fault is a byte of the line, or its length
abbrev pub PlacesLieWithin : Type 0
PlacesLieWithin = (table : List ArchWords) (suites : List (List ℕ)) (line : List ℕ)
    (what : LineFault) (place : ℕ) → command_at table suites line ≡ Err (Wrong what place)
    → place ≤ length line
