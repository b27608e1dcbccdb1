-- What the loop of `cmp_part` keeps, and why it ends.
use Rattle.std.proofs.Common.{◌≡◌, ◌+◌, length}
use Rattle.td_version.specs.Order.{part_cmp}
use Rattle.td_version.proofs.order.cmp_part.Given as goal

-- what is left decides
abbrev pub invariant-loop-left : goal.invariant-loop-left
invariant-loop-left l = part_cmp l.left l.right ≡ part_cmp l.a l.b

abbrev pub decreases-loop-left : goal.decreases-loop-left
decreases-loop-left l = length l.left + length l.right
