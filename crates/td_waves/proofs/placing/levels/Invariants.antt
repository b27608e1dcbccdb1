-- What the loop of `levels` keeps, and why it ends.
use Rattle.td_waves.specs.Graph.{lists, uses}
use Rattle.td_waves.proofs.Underway.{Underway}
use Rattle.td_waves.proofs.placing.levels.Given as goal

abbrev pub invariant-loop-node : goal.invariant-loop-node
invariant-loop-node l = Underway (lists l.graph) l.left.items l.heights.items l.numbers.items
    l.ready.items

-- how many nodes have no number
abbrev pub decreases-loop-node : goal.decreases-loop-node
decreases-loop-node l = uses 0 l.numbers.items
