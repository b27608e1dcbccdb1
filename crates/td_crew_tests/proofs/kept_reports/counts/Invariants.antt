-- What the loop of `counts` keeps.
use Rattle.std.proofs.Common.{◌≡◌, ◌<◌, ℕ, get_or, length}
use Rattle.td_report.specs.Groups.{installed_of}
use Rattle.td_crew_tests.proofs.kept_reports.counts.Given as goal

-- the counts of the groups so far
abbrev pub invariant-loop-group : goal.invariant-loop-group
invariant-loop-group l = record {
  each : (k : ℕ) → k < l.group → get_or l.counts.items k 0 ≡ installed_of l.transition l.rows k;
  len : length l.counts.items ≡ l.group;
}
