-- What the loop of `due_positions` keeps.
use Rattle.std.proofs.Common.{◌≡◌, length, map, take}
use Rattle.td_indices.specs.Archive.{places_from}
use Rattle.td_plan.specs.inner.Movers.{has_due_motion}
use Rattle.td_plan.specs.inner.Ordering.{ArePartsOf, position_of}
use Rattle.td_plan.proofs.ordering.due_positions.Given as goal

-- the positions of the sources so far
abbrev pub invariant-loop-number : goal.invariant-loop-number
invariant-loop-number l = ArePartsOf (length l.movers) l.parts → l.positions.items
    ≡ map (position_of l.parts) (places_from has_due_motion 0 (take l.number l.movers))
