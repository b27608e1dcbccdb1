-- What the loop of `keys_of` keeps.
use Rattle.std.proofs.Common.{◌≡◌, take}
use Rattle.td_naming.specs.Naming.{keys_at}
use Rattle.td_naming.proofs.naming.keys_of.Given as goal

abbrev pub invariant-loop-number : goal.invariant-loop-number
invariant-loop-number l = l.keys.items ≡ keys_at l.rows (take l.number-index l.numbers)
