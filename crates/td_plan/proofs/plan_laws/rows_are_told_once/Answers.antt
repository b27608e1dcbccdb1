-- `rows_are_told_once`: what it answers.
use Rattle.td_plan.proofs.ToldOnce.{other_rows_are_in_no_line, wanted_rows_are_in_one_line}
use Rattle.td_plan.proofs.plan_laws.rows_are_told_once.Goals as goal

pub returns-clause-wanted : goal.returns-clause-wanted
returns-clause-wanted c = wanted_rows_are_in_one_line

pub returns-clause-others : goal.returns-clause-others
returns-clause-others c = other_rows_are_in_no_line
