-- What the loop of `take_part` keeps, and its measure.
use Rattle.std.proofs.Common.{length}
use Rattle.td_waves.specs.Graph.{lists}
use Rattle.td_plan.specs.inner.Lists.{AreClear, AreReached}
use Rattle.td_plan.proofs.strays.take_part.Given as goal

-- the nodes are those to which a way leads from the root
abbrev pub invariant-loop-nodes : goal.invariant-loop-nodes
invariant-loop-nodes l = record {
  reached : AreReached (lists l.graph) l.root l.fn.left.items l.nodes.items l.left.items;
  clear : AreClear (length l.graph) l.inside.items;
}

abbrev pub decreases-loop-nodes : goal.decreases-loop-nodes
decreases-loop-nodes l = length l.nodes.items
