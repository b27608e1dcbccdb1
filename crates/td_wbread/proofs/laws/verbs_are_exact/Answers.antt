-- `verbs_are_exact`: what it answers.
use Rattle.td_wbread.proofs.VerbShapes.{verbs_exact}
use Rattle.td_wbread.proofs.laws.verbs_are_exact.Goals as goal

pub returns : goal.returns
returns c = verbs_exact
