-- What the loop of `installed` keeps.
use Rattle.std.proofs.Common.{◌≡◌, ◌≤◌, take}
use Rattle.td_report.specs.Groups.{installed_of}
use Rattle.td_crew_tests.proofs.kept_reports.installed.Given as goal

-- the rows so far are counted
abbrev pub invariant-loop-number : goal.invariant-loop-number
invariant-loop-number l = record {
  count : l.count ≡ installed_of l.transition (take l.number l.rows) l.group;
  few : l.count ≤ l.number;
}
