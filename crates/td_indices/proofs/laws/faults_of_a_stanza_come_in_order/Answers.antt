-- `faults_of_a_stanza_come_in_order`: what it answers.
use Rattle.td_indices.proofs.FaultOrder.{package_faults, source_faults}
use Rattle.td_indices.proofs.laws.faults_of_a_stanza_come_in_order.Goals as goal

pub returns : goal.returns
returns c = record { packages = package_faults; sources = source_faults }
