-- What the loop of `by_level` keeps.
use Rattle.std.proofs.Common.{take}
use Rattle.td_report.specs.inner.Grouped.{AreByLevel}
use Rattle.td_report.proofs.grouping.by_level.Given as goal

-- the rows so far
abbrev pub invariant-loop-item : goal.invariant-loop-item
invariant-loop-item l = AreByLevel l.depth (take l.item-index l.items) l.grouped
