-- What the loop of `tick_receipts` keeps.
use Rattle.std.specs.Prelude.{◌≡◌, length, take}
use Rattle.td_desk.specs.inner.Ticks.{Takes, left_from}
use Rattle.td_desk.proofs.closing.tick_receipts.Given as goal

abbrev pub invariant-loop-at : goal.invariant-loop-at
invariant-loop-at l = record {
  taken : Takes (take l.at l.fn.receipts.items) (left_from 1 l.fn.entries l.fn.ticks.items)
      (left_from 1 l.fn.entries l.ticks.items);
  len : length l.ticks.items ≡ length l.fn.ticks.items;
}
