-- `Hands::free`: a hand for each builder so far, with nothing in it.
use Rattle.std.proofs.Common.{◌≡◌, None, replicate}
use Rattle.td_lasting.proofs.hands.Hands.free.Given as goal

abbrev pub invariant-loop : goal.invariant-loop
invariant-loop l = l.rows.items ≡ replicate l.counter None
