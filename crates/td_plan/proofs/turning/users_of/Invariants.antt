-- What the loop of `users_of` keeps.
use Rattle.std.proofs.Common.{◌≡◌, ℕ, length, nat_lt, if◌then◌else◌}
use Rattle.td_waves.specs.Graph.{bases_of, lists, uses}
use Rattle.td_plan.proofs.turning.users_of.Given as goal

-- the nodes so far are in the lists of what they build on
abbrev pub invariant-loop-node : goal.invariant-loop-node
invariant-loop-node l = record {
  uses : (x t : ℕ) → uses x (bases_of (lists l.users.items) t)
      ≡ (if nat_lt x l.node then uses t (bases_of (lists l.graph) x) else 0);
  len : length l.users.items ≡ length l.graph;
}
