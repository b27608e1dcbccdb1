-- What the loop of `Transition::items` keeps.
use Rattle.std.proofs.Common.{◌≡◌, map, take}
use Rattle.td_report.specs.Transition.{affected_rows}
use Rattle.td_report.specs.TransitionView.{contents_of, level_of, tracking_of}
use Rattle.td_report.specs.inner.ItemLines.{seen}
use Rattle.td_report.proofs.transition.Transition.items.Given as goal

-- the affected ones of the rows so far
abbrev pub invariant-loop-number : goal.invariant-loop-number
invariant-loop-number l = map seen l.items.items
    ≡ affected_rows (contents_of l.self) (tracking_of l.self) (level_of l.self)
    (take l.number l.rows)
