-- `numbers_run_out_over_rows`: what it answers.
use Rattle.td_plan.proofs.LeastNumbers.{numbers_run_out as law}
use Rattle.td_plan.proofs.row_laws.numbers_run_out_over_rows.Goals as goal

pub returns : goal.returns
returns c = law
