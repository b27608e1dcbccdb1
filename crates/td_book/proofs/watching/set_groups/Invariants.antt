-- What the loop of `set_groups` keeps.
use Rattle.td_book.proofs.Groups.{AreSet}
use Rattle.td_book.proofs.watching.set_groups.Given as goal

abbrev pub invariant-loop-pair : goal.invariant-loop-pair
invariant-loop-pair l = AreSet l.pair-index l.of_rows.items l.rows l.given
