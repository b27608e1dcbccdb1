-- What the loops of `parts_of` keep, and the first one's measure.
use Rattle.std.proofs.Common.{ℕ, ◌<◌, length, vec_len}
use Rattle.std.specs.List.{All}
use Rattle.td_waves.specs.Graph.{lists}
use Rattle.td_plan.specs.inner.Lists.{AreClear, IsSet}
use Rattle.td_plan.specs.inner.Searching.{AreUnderway}
use Rattle.td_plan.proofs.parts.parts_of.Given as goal

-- parts are taken; what is to come are nodes
abbrev pub invariant-loop-root : goal.invariant-loop-root
invariant-loop-root l = record {
  clear : AreClear (length l.graph) l.inside.items;
  underway : AreUnderway (lists l.graph) l.left.items l.parts.firsts.items l.parts.steps.items;
  order : All (λ n. n < length l.graph) l.order.items;
}

abbrev pub decreases-loop-root : goal.decreases-loop-root
decreases-loop-root l = vec_len l.order

-- the nodes so far are taken
abbrev pub invariant-loop-node : goal.invariant-loop-node
invariant-loop-node l = record {
  clear : AreClear (length l.graph) l.inside.items;
  underway : AreUnderway (lists l.graph) l.left.items l.parts.firsts.items l.parts.steps.items;
  taken : (k : ℕ) → k < l.node → ¬ IsSet l.left.items k;
}
