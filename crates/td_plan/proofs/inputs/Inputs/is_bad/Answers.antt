-- `Inputs::is_bad`: what it answers.
use Rattle.td_plan.proofs.inputs.Inputs.is_bad.Goals as goal

pub returns : goal.returns
returns c = λ p of. c.is_bad.ensures.bad p.archive p.tracker of.marks
