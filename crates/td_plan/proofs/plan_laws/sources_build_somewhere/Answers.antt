-- `sources_build_somewhere`: what it answers.
use Rattle.td_plan.proofs.Somewhere.{sources_build_somewhere}
use Rattle.td_plan.proofs.plan_laws.sources_build_somewhere.Goals as goal

pub returns : goal.returns
returns c = sources_build_somewhere
