-- What the loop of `swapped_packages` keeps.
use Rattle.std.proofs.Common.{◌≡◌, ◌≤◌, count_by, take}
use Rattle.td_details.specs.Swapped.{is_swapped_package}
use Rattle.td_details.proofs.swapped.swapped_packages.Given as goal

-- those of the packages so far are counted
abbrev pub invariant-loop-number : goal.invariant-loop-number
invariant-loop-number l = record {
  count : l.count ≡ count_by (is_swapped_package l.archive) (take l.number l.archive.binaries);
  few : l.count ≤ l.number;
}
