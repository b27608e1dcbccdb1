-- `numbers_are_least`: what it answers.
use Rattle.td_plan.proofs.LeastNumbers.{numbers_are_least as law}
use Rattle.td_plan.proofs.row_laws.numbers_are_least.Goals as goal

pub returns : goal.returns
returns c = law
