-- What the loop of `set_flags` keeps.
use Rattle.std.proofs.Common.{◌≡◌, false, length, take}
use Rattle.td_plan.specs.inner.Lists.{AreSetTo}
use Rattle.td_plan.proofs.strays.set_flags.Given as goal

-- the nodes so far have the value
abbrev pub invariant-loop-node : goal.invariant-loop-node
invariant-loop-node l = record {
  set : AreSetTo (take l.node-index l.nodes) false l.value l.fn.flags.items l.flags.items;
  len : length l.flags.items ≡ length l.fn.flags.items;
}
