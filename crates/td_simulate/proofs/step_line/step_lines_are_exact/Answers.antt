-- `step_lines_are_exact`: what it answers.
use Rattle.td_simulate.proofs.StepWords.{steps_exact}
use Rattle.td_simulate.proofs.step_line.step_lines_are_exact.Goals as goal

pub returns : goal.returns
returns c = steps_exact
