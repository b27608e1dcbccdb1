-- `plan_lines_are_read`: what it answers.
use Rattle.td_plan.proofs.ReadLines.{dw_lines_are_read, nmu_lines_are_read}
use Rattle.td_plan.proofs.laws.plan_lines_are_read.Goals as goal

pub returns : goal.returns
returns c = record { nmu = nmu_lines_are_read; dw = dw_lines_are_read }
