-- What the loop of `first_set` keeps.
use Rattle.std.proofs.Common.{take}
use Rattle.std.specs.List.{All}
use Rattle.td_plan.specs.inner.Lists.{IsSet}
use Rattle.td_plan.proofs.strays.first_set.Given as goal

-- none of the nodes so far is set
abbrev pub invariant-loop-node : goal.invariant-loop-node
invariant-loop-node l = All (λ n. ¬ IsSet l.flags n) (take l.node-index l.nodes)
