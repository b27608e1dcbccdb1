-- `left_rows_are_explained`: what it answers.
use Rattle.td_plan.proofs.LeftRows.{left_rows_are_explained as law}
use Rattle.td_plan.proofs.row_laws.left_rows_are_explained.Goals as goal

pub returns : goal.returns
returns c = law
