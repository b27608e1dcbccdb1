-- `packages_are_exact`: what it answers.
use Rattle.td_wbread.proofs.Dotted.{packages_exact}
use Rattle.td_wbread.proofs.laws.packages_are_exact.Goals as goal

pub returns : goal.returns
returns c = packages_exact
