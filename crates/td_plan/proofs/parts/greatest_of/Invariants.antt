-- What the loop of `greatest_of` keeps.
use Rattle.std.proofs.Common.{◌≡◌, ◌⊎◌, ◌≤◌, ℕ, get_or, take}
use Rattle.std.specs.List.{All, Contains}
use Rattle.td_plan.proofs.parts.greatest_of.Given as goal

-- the greatest is the step of one of the nodes, and that of none so far is greater
abbrev pub invariant-loop-node : goal.invariant-loop-node
invariant-loop-node l = record {
  above : All (λ n. get_or l.steps n 0 ≤ l.greatest) (take l.node-index l.nodes);
  found : (l.greatest ≡ 0)
      ⊎ ((n : ℕ) × Contains l.nodes n × (get_or l.steps n 0 ≡ l.greatest));
}
