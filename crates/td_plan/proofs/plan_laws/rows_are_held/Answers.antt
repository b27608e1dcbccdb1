-- `rows_are_held`: what it answers.
use Rattle.td_plan.proofs.Held.{rows_are_held}
use Rattle.td_plan.proofs.NewVersions.{due_versions_are_new}
use Rattle.td_plan.proofs.plan_laws.rows_are_held.Goals as goal

pub returns-clause-held : goal.returns-clause-held
returns-clause-held c = rows_are_held

pub returns-clause-due : goal.returns-clause-due
returns-clause-due c = due_versions_are_new
