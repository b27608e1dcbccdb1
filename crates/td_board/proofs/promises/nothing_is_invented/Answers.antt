-- `nothing_is_invented`: what it answers.
use Rattle.td_board.proofs.PromiseLaws.{nothing_invented}
use Rattle.td_board.proofs.promises.nothing_is_invented.Goals as goal

pub returns : goal.returns
returns c = nothing_invented
