-- `due_rows_are_waited_for`: what it answers.
use Rattle.td_plan.proofs.AlwaysWaited.{due_rows_are_waited_for}
use Rattle.td_plan.proofs.plan_laws.due_rows_are_waited_for.Goals as goal

pub returns : goal.returns
returns c = due_rows_are_waited_for
