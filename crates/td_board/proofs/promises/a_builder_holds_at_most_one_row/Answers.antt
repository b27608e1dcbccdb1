-- `a_builder_holds_at_most_one_row`: what it answers.
use Rattle.td_board.proofs.PromiseLaws.{one_row_each}
use Rattle.td_board.proofs.promises.a_builder_holds_at_most_one_row.Goals as goal

pub returns : goal.returns
returns c = one_row_each
