-- `wrong_bytes_are_final`: what it answers.
use Rattle.td_query.proofs.FrontTrackers.{wrong_bytes_are_final, wrong_bytes_are_there}
use Rattle.td_query.proofs.laws.wrong_bytes_are_final.Goals as goal

pub returns : goal.returns
returns c = record { there = wrong_bytes_are_there; always = wrong_bytes_are_final }
