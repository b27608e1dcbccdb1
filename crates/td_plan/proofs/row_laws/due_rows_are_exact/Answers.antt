-- `due_rows_are_exact`: what it answers.
use Rattle.td_plan.proofs.DueRows.{due_rows_are_exact as law}
use Rattle.td_plan.proofs.RestingRows.{due_rows_rest}
use Rattle.td_plan.proofs.row_laws.due_rows_are_exact.Goals as goal

pub returns-clause-exact : goal.returns-clause-exact
returns-clause-exact c = law

pub returns-clause-apart : goal.returns-clause-apart
returns-clause-apart c = due_rows_rest
