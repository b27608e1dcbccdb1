-- What the loop of `no_groups` keeps.
use Rattle.std.proofs.Common.{◌≡◌, None, replicate}
use Rattle.td_book.proofs.watching.no_groups.Given as goal

abbrev pub invariant-loop : goal.invariant-loop
invariant-loop l = l.of_rows.items ≡ replicate l.counter None
