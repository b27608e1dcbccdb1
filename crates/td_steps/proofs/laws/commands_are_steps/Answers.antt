-- `commands_are_steps`: what it answers.
use Rattle.td_steps.proofs.Commands.{commands_are_steps}
use Rattle.td_steps.proofs.laws.commands_are_steps.Goals as goal

pub returns : goal.returns
returns c = commands_are_steps
