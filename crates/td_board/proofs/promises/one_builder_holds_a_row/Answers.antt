-- `one_builder_holds_a_row`: what it answers.
use Rattle.td_board.proofs.PromiseLaws.{one_holder}
use Rattle.td_board.proofs.promises.one_builder_holds_a_row.Goals as goal

pub returns : goal.returns
returns c = one_holder
