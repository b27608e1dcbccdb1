-- `schedules_are_runs`: what it answers.
use Rattle.td_steps.proofs.Schedules.{schedules_run}
use Rattle.td_steps.proofs.laws.schedules_are_runs.Goals as goal

pub returns : goal.returns
returns c = schedules_run
