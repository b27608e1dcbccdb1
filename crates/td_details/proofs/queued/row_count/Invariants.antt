-- What the loop of `row_count` keeps.
use Rattle.std.proofs.Common.{◌≡◌, ◌≤◌, count_by, take}
use Rattle.td_details.specs.Counts.{is_there}
use Rattle.td_details.proofs.queued.row_count.Given as goal

-- the rows of the sources so far are counted
abbrev pub invariant-loop-number : goal.invariant-loop-number
invariant-loop-number l = record {
  count : l.count ≡ count_by (is_there l.archive l.place) (take l.number l.archive.sources);
  few : l.count ≤ l.number;
}
