-- `rows_are_released`: what it answers.
use Rattle.td_plan.proofs.Freed.{rows_are_released}
use Rattle.td_plan.proofs.ReadWaits.{read_rows_are_released}
use Rattle.td_plan.proofs.plan_laws.rows_are_released.Goals as goal

pub returns-clause-again : goal.returns-clause-again
returns-clause-again c = rows_are_released

pub returns-clause-read : goal.returns-clause-read
returns-clause-read c = read_rows_are_released
