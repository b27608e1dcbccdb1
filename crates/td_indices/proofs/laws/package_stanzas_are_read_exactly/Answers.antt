-- `package_stanzas_are_read_exactly`: what it answers.
use Rattle.td_indices.proofs.PackageStanzas.{packages_are_exact}
use Rattle.td_indices.proofs.laws.package_stanzas_are_read_exactly.Goals as goal

pub returns : goal.returns
returns c = packages_are_exact
