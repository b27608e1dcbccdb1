-- What the loop of `closed` keeps.
use Rattle.std.proofs.Common.{◌≡◌, replicate}
use Rattle.td_core.specs.declared.step.Phase.TheVariants.{Closed}
use Rattle.td_core.proofs.world.closed.Given as goal

-- one for each turn so far
abbrev pub invariant-loop : goal.invariant-loop
invariant-loop l = l.phases.items ≡ replicate l.counter Closed
