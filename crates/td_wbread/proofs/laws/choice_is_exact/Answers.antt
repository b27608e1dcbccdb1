-- `choice_is_exact`: what it answers.
use Rattle.td_wbread.proofs.Chosen.{choice_exact}
use Rattle.td_wbread.proofs.laws.choice_is_exact.Goals as goal

pub returns : goal.returns
returns c = choice_exact
