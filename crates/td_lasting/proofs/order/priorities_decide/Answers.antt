-- `priorities_decide`: what it answers.
use Rattle.td_lasting.proofs.PriorityLaws.{priorities_decide}
use Rattle.td_lasting.proofs.order.priorities_decide.Goals as goal

pub returns : goal.returns
returns c = priorities_decide
