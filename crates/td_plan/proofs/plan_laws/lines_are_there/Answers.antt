-- `lines_are_there`: its two clauses.
use Rattle.td_plan.proofs.LinesThere.{left_lines_are_there, nmu_lines_are_there}
use Rattle.td_plan.proofs.plan_laws.lines_are_there.Goals as goal

pub returns-clause-rebuilt : goal.returns-clause-rebuilt
returns-clause-rebuilt c = nmu_lines_are_there

pub returns-clause-left : goal.returns-clause-left
returns-clause-left c = left_lines_are_there
