-- `a_hold_ends_only_by_its_finish`: what it answers.
use Rattle.td_board.proofs.PromiseLaws.{hold_lasts}
use Rattle.td_board.proofs.promises.a_hold_ends_only_by_its_finish.Goals as goal

pub returns : goal.returns
returns c = hold_lasts
