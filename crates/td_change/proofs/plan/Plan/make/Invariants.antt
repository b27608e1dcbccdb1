-- What the loop of `Plan::make` keeps, and why it ends.
use Rattle.std.proofs.Common.{◌≤◌, ◌+◌, length, vec_len, vec_capacity}
use Rattle.td_change.specs.Plans.{left}
use Rattle.td_change.proofs.Plans.{Left}
use Rattle.td_change.proofs.plan.Plan.make.Given as goal

-- the entries that are left lead to the rows and kept cells of all, and there is room for them
abbrev pub invariant-loop-number : goal.invariant-loop-number
invariant-loop-number l = record {
  far : Left l.kind l.planned.entries l.rows l.kept.items (left l.fn.self) l.fn.rows;
  room : length l.planned.entries + vec_len l.kept ≤ vec_capacity l.kept;
}

abbrev pub decreases-loop-number : goal.decreases-loop-number
decreases-loop-number l = length l.planned.entries
