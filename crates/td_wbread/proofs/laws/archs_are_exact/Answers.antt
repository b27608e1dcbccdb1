-- `archs_are_exact`: what it answers.
use Rattle.td_wbread.proofs.Undotted.{archs_exact}
use Rattle.td_wbread.proofs.laws.archs_are_exact.Goals as goal

pub returns : goal.returns
returns c = archs_exact
