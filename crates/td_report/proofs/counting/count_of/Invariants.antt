-- What the loop of `count_of` keeps.
use Rattle.std.proofs.Common.{◌≡◌, ◌≤◌, take, count_by}
use Rattle.td_report.specs.inner.ItemLines.{has_status}
use Rattle.td_report.proofs.counting.count_of.Given as goal

-- the rows so far are counted
abbrev pub invariant-loop-item : goal.invariant-loop-item
invariant-loop-item l = record {
  count : l.count ≡ count_by (has_status l.status) (take l.item-index l.items);
  few : l.count ≤ l.item-index;
}
