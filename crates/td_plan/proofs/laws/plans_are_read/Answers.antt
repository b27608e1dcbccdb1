-- `plans_are_read`: what it answers.
use Rattle.td_plan.proofs.PlanReading.{plans_are_read}
use Rattle.td_plan.proofs.laws.plans_are_read.Goals as goal

pub returns : goal.returns
returns c = plans_are_read
