-- What the loop of `outside` keeps.
use Rattle.std.proofs.Common.{◌≡◌, drop}
use Rattle.td_book.specs.WatchCalls.{outside_in}
use Rattle.td_book.proofs.watching.outside.Given as goal

abbrev pub invariant-loop-pair : goal.invariant-loop-pair
invariant-loop-pair l =
    outside_in l.groups (drop l.pair-index l.given) ≡ outside_in l.groups l.given
