-- `nothing_is_met`: what it answers.
use Rattle.td_supply.proofs.ArrivalLaws.{nothing_is_met_so}
use Rattle.td_supply.proofs.laws.nothing_is_met.Goals as goal

pub returns : goal.returns
returns c = nothing_is_met_so
