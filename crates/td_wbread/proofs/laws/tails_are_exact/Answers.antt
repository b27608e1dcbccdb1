-- `tails_are_exact`: what it answers.
use Rattle.td_wbread.proofs.Tails.{tails_exact}
use Rattle.td_wbread.proofs.laws.tails_are_exact.Goals as goal

pub returns : goal.returns
returns c = tails_exact
