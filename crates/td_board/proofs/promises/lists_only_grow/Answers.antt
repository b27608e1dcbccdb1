-- `lists_only_grow`: what it answers.
use Rattle.td_board.proofs.PromiseLaws.{lists_grow}
use Rattle.td_board.proofs.promises.lists_only_grow.Goals as goal

pub returns : goal.returns
returns c = lists_grow
