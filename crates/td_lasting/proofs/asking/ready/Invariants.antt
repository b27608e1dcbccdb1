-- What the loop of `ready` keeps: the numbers of the rows so far that are to be built, from the
-- first.
use Rattle.std.proofs.Common.{option_map}
use Rattle.td_lasting.proofs.ReadyOrder.{AreReady}
use Rattle.td_lasting.proofs.asking.ready.Given as goal

abbrev pub invariant-loop-number : goal.invariant-loop-number
invariant-loop-number l =
    AreReady l.rows (option_map (λ a. a.now) l.arch) l.number l.numbers.items
