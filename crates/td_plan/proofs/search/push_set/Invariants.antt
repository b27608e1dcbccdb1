-- What the loop of `push_set` keeps.
use Rattle.std.proofs.Common.{take, length, ◌≡◌}
use Rattle.td_plan.specs.inner.Lists.{AreTakenOf}
use Rattle.td_plan.proofs.search.push_set.Given as goal

-- the nodes so far are taken
abbrev pub invariant-loop-node : goal.invariant-loop-node
invariant-loop-node l = record {
  taken : AreTakenOf (take l.node-index l.among) l.fn.nodes.items l.fn.flags.items
      l.nodes.items l.flags.items;
  len : length l.flags.items ≡ length l.fn.flags.items;
}
