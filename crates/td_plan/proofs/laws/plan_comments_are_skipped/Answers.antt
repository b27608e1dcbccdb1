-- `plan_comments_are_skipped`: what it answers.
use Rattle.td_plan.proofs.SaidComments.{comments_are_skipped}
use Rattle.td_plan.proofs.laws.plan_comments_are_skipped.Goals as goal

pub returns : goal.returns
returns c = comments_are_skipped
