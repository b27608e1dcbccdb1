-- `waits_are_all`: what it answers.
use Rattle.td_plan.proofs.AwaitedSources.{waits_are_all}
use Rattle.td_plan.proofs.plan_laws.waits_are_all.Goals as goal

pub returns : goal.returns
returns c = waits_are_all
