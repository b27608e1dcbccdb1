-- What the loop of `unknown` keeps.
use Rattle.std.proofs.Common.{◌≡◌, drop}
use Rattle.td_book.specs.WatchCalls.{unknown_in}
use Rattle.td_book.proofs.watching.unknown.Given as goal

abbrev pub invariant-loop-pair : goal.invariant-loop-pair
invariant-loop-pair l = unknown_in l.rows (drop l.pair-index l.given) ≡ unknown_in l.rows l.given
