-- What the loop of `Mover::moves` keeps.
use Rattle.std.proofs.Common.{◌≡◌, false, take}
use Rattle.std.specs.List.{list_any}
use Rattle.td_plan.specs.inner.Movers.{is_moving_motion}
use Rattle.td_plan.proofs.movers.Mover.moves.Given as goal

-- no row so far is rebuilt, or on its way
abbrev pub invariant-loop-motion : goal.invariant-loop-motion
invariant-loop-motion l =
    list_any is_moving_motion (take l.motion-index l.self.motions.at.items) ≡ false
