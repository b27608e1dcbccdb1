-- `lines_are_in_order`: its two clauses.
use Rattle.td_plan.proofs.LineOrder.{nmu_lines_are_in_order, sources_are_in_order}
use Rattle.td_plan.proofs.plan_laws.lines_are_in_order.Goals as goal

pub returns-clause-sources : goal.returns-clause-sources
returns-clause-sources c = sources_are_in_order

pub returns-clause-lines : goal.returns-clause-lines
returns-clause-lines c = nmu_lines_are_in_order
