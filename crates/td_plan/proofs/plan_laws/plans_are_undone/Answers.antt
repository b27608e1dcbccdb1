-- `plans_are_undone`: what it answers.
use Rattle.td_plan.proofs.PlayedBack.{plans_are_undone}
use Rattle.td_plan.proofs.plan_laws.plans_are_undone.Goals as goal

pub returns : goal.returns
returns c = plans_are_undone
