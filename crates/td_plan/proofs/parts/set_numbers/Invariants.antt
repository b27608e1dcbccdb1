-- What the loop of `set_numbers` keeps.
use Rattle.std.proofs.Common.{◌≡◌, length, take}
use Rattle.td_plan.specs.inner.Lists.{AreSetTo}
use Rattle.td_plan.proofs.parts.set_numbers.Given as goal

-- the nodes so far have the value
abbrev pub invariant-loop-node : goal.invariant-loop-node
invariant-loop-node l = record {
  set : AreSetTo (take l.node-index l.nodes) 0 l.value l.fn.numbers.items l.numbers.items;
  len : length l.numbers.items ≡ length l.fn.numbers.items;
}
