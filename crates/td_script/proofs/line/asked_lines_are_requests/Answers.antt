-- `asked_lines_are_requests`: what it answers.
use Rattle.td_script.proofs.RequestTexts.{lines_are_said}
use Rattle.td_script.proofs.line.asked_lines_are_requests.Goals as goal

pub returns : goal.returns
returns c = lines_are_said
