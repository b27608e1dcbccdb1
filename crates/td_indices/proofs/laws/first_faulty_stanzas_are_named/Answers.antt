-- `first_faulty_stanzas_are_named`: the clauses `packages` and `sources`.
use Rattle.td_indices.proofs.FirstFaults.{first_faulty_package, first_faulty_source}
use Rattle.td_indices.proofs.laws.first_faulty_stanzas_are_named.Goals as goal

pub returns-clause-packages : goal.returns-clause-packages
returns-clause-packages c = first_faulty_package

pub returns-clause-sources : goal.returns-clause-sources
returns-clause-sources c = first_faulty_source
