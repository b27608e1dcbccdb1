-- `texts_without_members_are_empty`: what it answers.
use Rattle.td_relation.proofs.EmptyRelations.{empty_relations_are_exact}
use Rattle.td_relation.proofs.laws.texts_without_members_are_empty.Goals as goal

pub returns : goal.returns
returns c = empty_relations_are_exact
