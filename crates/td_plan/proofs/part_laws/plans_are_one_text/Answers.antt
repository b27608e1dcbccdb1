-- `plans_are_one_text`: what it answers.
use Rattle.td_plan.proofs.OneText.{plans-are-one-text}
use Rattle.td_plan.proofs.part_laws.plans_are_one_text.Goals as goal

pub returns : goal.returns
returns c = plans-are-one-text
