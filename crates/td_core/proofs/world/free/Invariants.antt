-- What the loop of `free` keeps.
use Rattle.std.proofs.Common.{◌≡◌, replicate}
use Rattle.td_core.specs.declared.step.Hand.TheVariants.{Free}
use Rattle.td_core.proofs.world.free.Given as goal

-- one for each turn so far
abbrev pub invariant-loop : goal.invariant-loop
invariant-loop l = l.hands.items ≡ replicate l.counter Free
