-- What the loop of `without_zeros` keeps, and why it ends.
use Rattle.std.proofs.Common.{◌≡◌, length}
use Rattle.td_version.specs.Comparing.{without_zeros}
use Rattle.td_version.proofs.order.without_zeros.Given as goal

-- what is left gives the answer
abbrev pub invariant-loop-rest : goal.invariant-loop-rest
invariant-loop-rest l = without_zeros l.rest ≡ without_zeros l.digits

abbrev pub decreases-loop-rest : goal.decreases-loop-rest
decreases-loop-rest l = length l.rest
