-- `missing_fields_are_told_in_order`: what it answers.
use Rattle.td_indices.proofs.MissingFields.{missing_package_fields_are_exact}
use Rattle.td_indices.proofs.MissingFields.{missing_source_fields_are_exact}
use Rattle.td_indices.proofs.laws.missing_fields_are_told_in_order.Goals as goal

pub returns : goal.returns
returns c = record {
  packages = missing_package_fields_are_exact;
  sources = missing_source_fields_are_exact;
}
