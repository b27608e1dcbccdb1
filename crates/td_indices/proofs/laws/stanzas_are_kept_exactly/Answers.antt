-- `stanzas_are_kept_exactly`: what it answers.
use Rattle.td_indices.proofs.SourceStanzas.{kept_packages_are_exact, kept_sources_are_exact}
use Rattle.td_indices.proofs.Skipped.{skipped_packages_are_exact, skipped_sources_are_exact}
use Rattle.td_indices.proofs.laws.stanzas_are_kept_exactly.Goals as goal

pub returns : goal.returns
returns c = record {
  packages = kept_packages_are_exact;
  sources = kept_sources_are_exact;
  elsewhere = skipped_packages_are_exact;
  extra = skipped_sources_are_exact;
}
