-- `own_lines_are_exact`: what it answers.
use Rattle.td_lasting.proofs.OwnTexts.{own_exact}
use Rattle.td_lasting.proofs.own_request.own_lines_are_exact.Goals as goal

pub returns : goal.returns
returns c = own_exact
