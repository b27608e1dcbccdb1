-- What the loop of `count_installed` keeps.
use Rattle.std.proofs.Common.{◌≡◌, ◌≤◌, take, count_by}
use Rattle.td_report.specs.inner.ItemLines.{is_installed}
use Rattle.td_report.proofs.counting.count_installed.Given as goal

-- the rows so far are counted
abbrev pub invariant-loop-item : goal.invariant-loop-item
invariant-loop-item l = record {
  count : l.count ≡ count_by is_installed (take l.item-index l.items);
  few : l.count ≤ l.item-index;
}
