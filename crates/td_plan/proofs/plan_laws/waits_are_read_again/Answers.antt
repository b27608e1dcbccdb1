-- `waits_are_read_again`: what it answers.
use Rattle.td_plan.proofs.ReadWaits.{waits_are_read_again}
use Rattle.td_plan.proofs.plan_laws.waits_are_read_again.Goals as goal

pub returns : goal.returns
returns c = waits_are_read_again
