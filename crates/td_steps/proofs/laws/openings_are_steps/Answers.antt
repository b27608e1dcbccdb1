-- `openings_are_steps`: what it answers.
use Rattle.td_steps.proofs.Openings.{openings_are_steps}
use Rattle.td_steps.proofs.laws.openings_are_steps.Goals as goal

pub returns : goal.returns
returns c = openings_are_steps
