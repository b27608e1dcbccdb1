-- `waits_lead_down`: what it answers.
use Rattle.td_plan.proofs.Downward.{waits_lead_down}
use Rattle.td_plan.proofs.plan_laws.waits_lead_down.Goals as goal

pub returns : goal.returns
returns c = waits_lead_down
