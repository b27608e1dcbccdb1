-- `own_lines_are_heard`: what it answers.
use Rattle.td_lasting.proofs.OwnTexts.{own_heard}
use Rattle.td_lasting.proofs.hearing.own_lines_are_heard.Goals as goal

pub returns : goal.returns
returns c = own_heard
