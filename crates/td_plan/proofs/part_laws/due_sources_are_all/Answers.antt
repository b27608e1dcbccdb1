-- `due_sources_are_all`: what it answers.
use Rattle.td_plan.proofs.RowLaws.{due-sources-are-all}
use Rattle.td_plan.proofs.part_laws.due_sources_are_all.Goals as goal

pub returns : goal.returns
returns c = due-sources-are-all
