-- What the loop of `stands_in` keeps.
use Rattle.std.proofs.Common.{◌≡◌, false}
use Rattle.td_query.specs.Standing.{any_below, stands_at}
use Rattle.td_query.proofs.standing.stands_in.Given as goal

abbrev pub invariant-loop-i : goal.invariant-loop-i
invariant-loop-i l = any_below (stands_at l.text l.value) l.i ≡ false
