-- The row with nothing in it. This project's own.
use Rattle.std.specs.Prelude.{[], pos}
use Rattle.td_rows.specs.declared.row.Row.{Row}
use Rattle.td_rows.specs.declared.state.State.TheVariants.{NeedsBuild}

-- what a kept row has in the cells that aren't kept
abbrev pub blank : Row
blank = record { state = NeedsBuild; priority = pos 0; number = 0; dep_wait = []; extra = [] }
