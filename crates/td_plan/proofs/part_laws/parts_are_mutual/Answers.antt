-- `parts_are_mutual`: what it answers.
use Rattle.td_plan.proofs.PlacingsAlike.{parts-are-mutual}
use Rattle.td_plan.proofs.part_laws.parts_are_mutual.Goals as goal

pub returns : goal.returns
returns c = parts-are-mutual
