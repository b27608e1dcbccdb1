-- What the loop of `each` keeps.
use Rattle.std.proofs.Common.{◌≡◌, map}
use Rattle.td_crew.proofs.worker.each.Given as goal

-- those so far are workers, in their order
abbrev pub invariant-loop-one : goal.invariant-loop-one
invariant-loop-one g l = map (λ w. w.hired) l.workers.items ≡ l.yielded
