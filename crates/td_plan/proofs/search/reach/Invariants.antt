-- What the loop of `reach` keeps, and its measure.
use Rattle.std.proofs.Common.{◌-◌, ◌<◌, length}
use Rattle.std.specs.List.{All}
use Rattle.td_waves.specs.Graph.{lists}
use Rattle.td_plan.specs.inner.Lists.{count_set}
use Rattle.td_plan.proofs.Reached.{IsReaching}
use Rattle.td_plan.proofs.search.reach.Given as goal

-- how far the search has come
abbrev pub invariant-loop-done : goal.invariant-loop-done
invariant-loop-done l = record {
  reaching : IsReaching (lists l.graph) l.root l.fn.flags.items l.nodes.items l.flags.items l.done;
  nodes : All (λ n. n < length l.graph) l.nodes.items;
}

-- the nodes that may still come
abbrev pub decreases-loop-done : goal.decreases-loop-done
decreases-loop-done l = count_set l.fn.flags.items - l.done
