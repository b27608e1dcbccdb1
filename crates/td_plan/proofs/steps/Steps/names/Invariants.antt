-- What the loop of `Steps::names` keeps.
use Rattle.std.proofs.Common.{◌≡◌, map, take}
use Rattle.td_plan.specs.inner.Movers.{mover_name}
use Rattle.td_plan.proofs.steps.Steps.names.Given as goal

-- the names so far
abbrev pub invariant-loop-mover : goal.invariant-loop-mover
invariant-loop-mover l = map (λ name. name.now) l.names.items
    ≡ map mover_name (take l.mover-index l.self.movers.items)
