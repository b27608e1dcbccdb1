-- What the loop of `swapped_sources` keeps.
use Rattle.std.proofs.Common.{◌≡◌, ◌≤◌, count_by, take}
use Rattle.td_details.specs.Swapped.{is_swapped_source}
use Rattle.td_details.proofs.swapped.swapped_sources.Given as goal

-- those of the sources so far are counted
abbrev pub invariant-loop-number : goal.invariant-loop-number
invariant-loop-number l = record {
  count : l.count ≡ count_by (is_swapped_source l.archive) (take l.number l.archive.sources);
  few : l.count ≤ l.number;
}
