-- `finishes_can_run`: what it answers.
use Rattle.td_steps.proofs.Ends.{finishes_run}
use Rattle.td_steps.proofs.laws.finishes_can_run.Goals as goal

pub returns : goal.returns
returns c = finishes_run
