-- `builders_change_nothing`: what it answers.
use Rattle.td_steps.proofs.Moves.{builders_change_nothing}
use Rattle.td_steps.proofs.laws.builders_change_nothing.Goals as goal

pub returns : goal.returns
returns c = builders_change_nothing
