-- `words_are_exact`: what it answers.
use Rattle.td_wbread.proofs.Written.{words_are_exact}
use Rattle.td_wbread.proofs.laws.words_are_exact.Goals as goal

pub returns : goal.returns
returns c = words_are_exact
