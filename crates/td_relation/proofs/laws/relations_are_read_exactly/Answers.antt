-- `relations_are_read_exactly`: what it answers.
use Rattle.td_relation.proofs.FoundRelations.{relations_are_exact}
use Rattle.td_relation.proofs.laws.relations_are_read_exactly.Goals as goal

pub returns : goal.returns
returns c = relations_are_exact
