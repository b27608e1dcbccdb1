-- `steps_have_comments`: its two clauses.
use Rattle.td_plan.proofs.StepComments.{part_lines_are_there, step_lines_are_there}
use Rattle.td_plan.proofs.comment_laws.steps_have_comments.Goals as goal

pub returns-clause-steps : goal.returns-clause-steps
returns-clause-steps c = step_lines_are_there

pub returns-clause-parts : goal.returns-clause-parts
returns-clause-parts c = part_lines_are_there
