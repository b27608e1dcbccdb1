-- A book that watches the groups of a transition. This project's own.
use Rattle.std.specs.Prelude.{◌≡◌, ◌+◌, map}
use Rattle.td_rows.specs.Table.{Table, keys_of}
use Rattle.td_book.specs.Desk.{Fixed}
use Rattle.td_book.specs.Watching.{WatchView}
use Rattle.td_report.specs.Groups.{group_of}
use Rattle.td_report.specs.TransitionView.{IsMade, depth_of}
use Rattle.td_report.specs.declared.transition.Transition.{Transition}

-- the watch of a transition's groups, over rows with these keys
abbrev pub watch_by : Transition → Table → WatchView
watch_by x opening =
    record { groups = depth_of x + 1; of_rows = map (group_of x) (keys_of opening) }

-- a book that began with these rows watches the groups of a transition
pub record Watches (x : Transition) (opening : Table) (fixed : Fixed) : Type 0 where
  pub made : IsMade x
  pub watch : fixed.watch ≡ watch_by x opening
