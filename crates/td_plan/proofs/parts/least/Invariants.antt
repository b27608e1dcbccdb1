-- What the loop of `least` keeps.
use Rattle.std.proofs.Common.{◌≤◌, take}
use Rattle.std.specs.List.{All, Contains}
use Rattle.td_plan.proofs.parts.least.Given as goal

-- the least is one of the nodes, and none so far is less
abbrev pub invariant-loop-node : goal.invariant-loop-node
invariant-loop-node l = record {
  within : Contains l.nodes l.least;
  least : All (λ n. l.least ≤ n) (take l.node-index l.nodes);
}
