-- `firsts_are_least`: what it answers.
use Rattle.td_plan.proofs.RowLaws.{firsts-are-least}
use Rattle.td_plan.proofs.part_laws.firsts_are_least.Goals as goal

pub returns : goal.returns
returns c = firsts-are-least
