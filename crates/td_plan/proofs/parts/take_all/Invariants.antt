-- What the loop of `take_all` keeps, and its measure.
use Rattle.std.proofs.Common.{ℕ, length}
use Rattle.td_waves.specs.Graph.{lists}
use Rattle.td_plan.specs.inner.Lists.{AreClear, IsSet, count_set}
use Rattle.td_plan.specs.inner.Searching.{AreUnderway}
use Rattle.td_plan.proofs.parts.take_all.Given as goal

-- parts are taken, and no more nodes are left than were
abbrev pub invariant-loop-alloc : goal.invariant-loop-alloc
invariant-loop-alloc l = record {
  clear : AreClear (length l.graph) l.inside.items;
  underway : AreUnderway (lists l.graph) l.left.items l.parts.firsts.items l.parts.steps.items;
  was : (n : ℕ) → IsSet l.left.items n → IsSet l.fn.left.items n;
}

abbrev pub decreases-loop-alloc : goal.decreases-loop-alloc
decreases-loop-alloc l = count_set l.left.items
