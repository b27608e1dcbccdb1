-- What the loop of `are_ticked` keeps.
use Rattle.std.specs.Prelude.{◌≡◌, drop}
use Rattle.td_desk.specs.inner.Ticks.{are_ticked}
use Rattle.td_desk.proofs.closing.are_ticked.Given as goal

abbrev pub invariant-loop-at : goal.invariant-loop-at
invariant-loop-at l =
    are_ticked (drop l.at l.entries) (drop l.at l.ticks.items)
    ≡ are_ticked l.fn.entries l.fn.ticks.items
