-- `spaced_relations_are_read`: what it answers.
use Rattle.td_relation.proofs.SpacedRelations.{spaced_relations_are_read}
use Rattle.td_relation.proofs.SpacedRelations.{whitespace_makes_no_difference}
use Rattle.td_relation.proofs.laws.spaced_relations_are_read.Goals as goal

pub returns : goal.returns
returns c = record { read = spaced_relations_are_read; same = whitespace_makes_no_difference }
