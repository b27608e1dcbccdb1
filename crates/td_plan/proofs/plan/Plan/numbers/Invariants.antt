-- What the loop of `Plan::numbers` keeps.
use Rattle.std.proofs.Common.{◌≡◌, length}
use Rattle.td_plan.proofs.MoverNumbers.{AreNumbersTo}
use Rattle.td_plan.proofs.plan.Plan.numbers.Given as goal

-- the numbers of the sources so far
abbrev pub invariant-loop-number : goal.invariant-loop-number
invariant-loop-number l = record {
  len : length l.numbers.items ≡ length l.self.inputs.archive.now.sources;
  are : AreNumbersTo l.self.movers.items l.number l.numbers.items;
}
