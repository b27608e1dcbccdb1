-- `arch_flaws_are_exact`: what it answers.
use Rattle.td_explain.proofs.Flaws.{flaws_are_exact}
use Rattle.td_explain.proofs.laws.arch_flaws_are_exact.Goals as goal

pub returns : goal.returns
returns c = flaws_are_exact
