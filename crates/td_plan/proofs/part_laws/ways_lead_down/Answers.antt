-- `ways_lead_down`: what it answers.
use Rattle.td_plan.proofs.PlacingsAlike.{ways-lead-down}
use Rattle.td_plan.proofs.part_laws.ways_lead_down.Goals as goal

pub returns : goal.returns
returns c = ways-lead-down
