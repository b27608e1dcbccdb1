-- `undos_are_steps`: what it answers.
use Rattle.td_steps.proofs.Undos.{undos_are_steps}
use Rattle.td_steps.proofs.laws.undos_are_steps.Goals as goal

pub returns : goal.returns
returns c = undos_are_steps
