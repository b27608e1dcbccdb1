-- `cut_scripts_tell_the_same`: what it answers.
use Rattle.td_script.proofs.CutLaws.{cut_scripts}
use Rattle.td_script.proofs.laws.cut_scripts_tell_the_same.Goals as goal

pub returns : goal.returns
returns c = cut_scripts
