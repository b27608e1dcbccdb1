-- `offered_names_are_those_of_offers`: what it answers.
use Rattle.td_indices.proofs.Names.{names_are}
use Rattle.td_indices.proofs.laws.offered_names_are_those_of_offers.Goals as goal

pub returns : goal.returns
returns c = names_are
