-- What the loop of `tick_clerks` keeps.
use Rattle.std.specs.Prelude.{◌≡◌, length, take}
use Rattle.td_desk.specs.Clerks.{all_receipts}
use Rattle.td_desk.specs.inner.Ticks.{Takes, left_from}
use Rattle.td_desk.proofs.closing.tick_clerks.Given as goal

abbrev pub invariant-loop-at : goal.invariant-loop-at
invariant-loop-at g l = record {
  taken : Takes (all_receipts (take l.at l.fn.clerks.items))
      (left_from 1 l.fn.entries l.fn.ticks.items) (left_from 1 l.fn.entries l.ticks.items);
  len : length l.ticks.items ≡ length l.fn.ticks.items;
}
