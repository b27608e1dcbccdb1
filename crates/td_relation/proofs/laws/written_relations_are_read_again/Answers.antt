-- `written_relations_are_read_again`: what it answers.
use Rattle.td_relation.proofs.WrittenMembers.{read_again}
use Rattle.td_relation.proofs.laws.written_relations_are_read_again.Goals as goal

pub returns : goal.returns
returns c = read_again
