-- `placings_are_one`: what it answers.
use Rattle.td_plan.proofs.PlacingsAlike.{placings-are-one}
use Rattle.td_plan.proofs.part_laws.placings_are_one.Goals as goal

pub returns : goal.returns
returns c = placings-are-one
