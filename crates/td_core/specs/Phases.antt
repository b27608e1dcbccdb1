-- The phase of a row's build, and how it goes with the row's state. This project's own.
use Rattle.std.specs.Prelude.{◌≡◌, Bool, true, false, Some}
use Rattle.td_rows.specs.declared.key.Key.{Key}
use Rattle.td_rows.specs.declared.row.Row.{Row}
use Rattle.td_rows.specs.declared.state.State.{State}
use Rattle.td_rows.specs.declared.state.State.TheVariants.{NeedsBuild, Building}
use Rattle.td_rows.specs.States.{is_building}
use Rattle.td_rows.specs.Table.{Table, row_of}
use Rattle.td_core.specs.declared.step.Phase.{Phase}
use Rattle.td_core.specs.declared.step.Phase.TheVariants.{Closed, Open, Held, Noted, Done}

-- whether the row is neither offered nor claimed without the journal's knowing
abbrev pub is_pinned : Phase → Bool
is_pinned Open = false
is_pinned (Held b) = false
is_pinned p = true

-- an offered or claimed row needs a build; a row is built by a builder if and only if the journal
-- knows its claim
abbrev pub Suits : Phase → State → Type 0
Suits Closed s = is_building s ≡ false
Suits Open s = s ≡ NeedsBuild
Suits (Held b) s = s ≡ NeedsBuild
Suits (Noted b) s = s ≡ Building b
Suits (Done b o) s = s ≡ Building b

-- no builder has a row
abbrev pub NoneBuilt : Table → Type 0
NoneBuilt t = (k : Key) (row : Row) → row_of t k ≡ Some row → is_building row.state ≡ false
