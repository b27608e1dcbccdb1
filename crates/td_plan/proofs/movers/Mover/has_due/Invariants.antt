-- What the loop of `Mover::has_due` keeps.
use Rattle.std.proofs.Common.{◌≡◌, false, take}
use Rattle.std.specs.List.{list_any}
use Rattle.td_plan.specs.inner.Movers.{is_due_motion}
use Rattle.td_plan.proofs.movers.Mover.has_due.Given as goal

-- no row so far is rebuilt
abbrev pub invariant-loop-motion : goal.invariant-loop-motion
invariant-loop-motion l =
    list_any is_due_motion (take l.motion-index l.self.motions.at.items) ≡ false
