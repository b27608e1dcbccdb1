-- What the loop of `affected_named` keeps.
use Rattle.std.proofs.Common.{map, take}
use Rattle.std.specs.List.{All}
use Rattle.td_query.specs.Tracking.{Tracking}
use Rattle.td_plan.specs.inner.Movers.{AreNamedOf, IsAffectedMover, IsNameAffected}
use Rattle.td_plan.proofs.affected.affected_named.Given as goal

-- the sources with the names so far
abbrev pub invariant-loop-name : goal.invariant-loop-name
invariant-loop-name l = (t : Tracking)
    → All (IsNameAffected l.archive t) (map (λ name. name.now) l.names)
    → AreNamedOf (IsAffectedMover l.archive t)
    (take l.name-index (map (λ name. name.now) l.names)) l.movers.items
