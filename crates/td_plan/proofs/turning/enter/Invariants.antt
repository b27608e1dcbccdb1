-- What the loop of `enter` keeps.
use Rattle.std.proofs.Common.{◌≡◌, ℕ, ◌+◌, ◌==◌, length, take, if◌then◌else◌}
use Rattle.td_waves.specs.Graph.{bases_of, lists, uses}
use Rattle.td_plan.proofs.turning.enter.Given as goal

abbrev pub invariant-loop-base : goal.invariant-loop-base
invariant-loop-base l = record {
  uses : (x t : ℕ) → uses x (bases_of (lists l.users.items) t) ≡ uses x (bases_of
      (lists l.fn.users.items) t) + (if l.node == x then uses t (take l.base-index l.bases) else 0);
  len : length l.users.items ≡ length l.fn.users.items;
}
