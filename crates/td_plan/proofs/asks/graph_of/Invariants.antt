-- What the loop of `graph_of` keeps.
use Rattle.std.proofs.Common.{◌≡◌, map, take}
use Rattle.td_waves.specs.Graph.{lists}
use Rattle.td_plan.specs.inner.Asking.{owners_of}
use Rattle.td_plan.proofs.asks.graph_of.Given as goal

-- the lists of the sources so far
abbrev pub invariant-loop-asks : goal.invariant-loop-asks
invariant-loop-asks l =
    lists l.graph.items ≡ map (λ asks. owners_of asks.items) (take l.asks-index l.all)
