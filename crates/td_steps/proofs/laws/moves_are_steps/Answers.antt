-- `moves_are_steps`: what it answers.
use Rattle.td_steps.proofs.Moves.{moves_are_steps}
use Rattle.td_steps.proofs.laws.moves_are_steps.Goals as goal

pub returns : goal.returns
returns c = moves_are_steps
