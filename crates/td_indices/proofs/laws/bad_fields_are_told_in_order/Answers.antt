-- `bad_fields_are_told_in_order`: what it answers.
use Rattle.td_indices.proofs.BadFields.{bad_package_relations, bad_source_relations}
use Rattle.td_indices.proofs.BadFields.{package_versions}
use Rattle.td_indices.proofs.laws.bad_fields_are_told_in_order.Goals as goal

pub returns : goal.returns
returns c = record {
  versions = package_versions;
  packages = bad_package_relations;
  sources = bad_source_relations;
}
