-- `rebuilds_are_of_due_sources`: what it answers.
use Rattle.td_plan.proofs.ToldOnce.{rebuilds_are_of_due_sources}
use Rattle.td_plan.proofs.plan_laws.rebuilds_are_of_due_sources.Goals as goal

pub returns : goal.returns
returns c = rebuilds_are_of_due_sources
