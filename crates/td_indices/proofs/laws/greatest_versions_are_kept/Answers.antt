-- `greatest_versions_are_kept`: the clauses `packages` and `sources`.
use Rattle.td_indices.proofs.CountingLaws.{greatest_packages, greatest_sources}
use Rattle.td_indices.proofs.laws.greatest_versions_are_kept.Goals as goal

pub returns-clause-packages : goal.returns-clause-packages
returns-clause-packages c = greatest_packages

pub returns-clause-sources : goal.returns-clause-sources
returns-clause-sources c = greatest_sources
