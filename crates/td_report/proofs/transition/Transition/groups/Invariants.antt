-- What the loop of `Transition::groups` keeps.
use Rattle.std.proofs.Common.{◌≡◌, take}
use Rattle.td_report.specs.Groups.{grouped}
use Rattle.td_report.proofs.transition.Transition.groups.Given as goal

-- the groups of the rows so far
abbrev pub invariant-loop-number : goal.invariant-loop-number
invariant-loop-number l = l.grouped.items ≡ grouped l.self (take l.number l.rows)
