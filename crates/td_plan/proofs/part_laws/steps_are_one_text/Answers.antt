-- `steps_are_one_text`: what it answers.
use Rattle.td_plan.proofs.OneSteps.{steps-are-one-text, whys-are-one-text}
use Rattle.td_plan.proofs.part_laws.steps_are_one_text.Goals as goal

pub returns-clause-steps : goal.returns-clause-steps
returns-clause-steps c = steps-are-one-text

pub returns-clause-whys : goal.returns-clause-whys
returns-clause-whys c = whys-are-one-text
