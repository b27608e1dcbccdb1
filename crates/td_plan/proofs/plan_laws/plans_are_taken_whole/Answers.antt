-- `plans_are_taken_whole`: what it answers.
use Rattle.td_plan.proofs.TakenWhole.{plans_are_taken_whole}
use Rattle.td_plan.proofs.plan_laws.plans_are_taken_whole.Goals as goal

pub returns : goal.returns
returns c = plans_are_taken_whole
