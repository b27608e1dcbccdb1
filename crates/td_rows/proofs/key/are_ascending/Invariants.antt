-- What the loop of `are_ascending` keeps.
use Rattle.std.proofs.Common.{◌≡◌, ◌-◌, drop}
use Rattle.td_rows.specs.Keys.{ascending}
use Rattle.td_rows.proofs.key.are_ascending.Given as goal

-- what is left decides
abbrev pub invariant-loop-at : goal.invariant-loop-at
invariant-loop-at l = ascending (drop (l.at - 1) l.keys) ≡ ascending l.keys
