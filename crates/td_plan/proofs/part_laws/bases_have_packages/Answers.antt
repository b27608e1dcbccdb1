-- `bases_have_packages`: what it answers.
use Rattle.td_plan.proofs.BasePackages.{bases-have-packages}
use Rattle.td_plan.proofs.part_laws.bases_have_packages.Goals as goal

pub returns : goal.returns
returns c = bases-have-packages
