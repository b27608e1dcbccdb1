-- What the loop of `freed` keeps.
use Rattle.std.proofs.Common.{◌≡◌, take}
use Rattle.td_core.specs.Offers.{freed}
use Rattle.td_core.proofs.sweeping.freed.Given as goal

-- the rows so far are asked
abbrev pub invariant-loop-number : goal.invariant-loop-number
invariant-loop-number l = l.keys.items ≡ freed l.supply (take l.number l.rows)
