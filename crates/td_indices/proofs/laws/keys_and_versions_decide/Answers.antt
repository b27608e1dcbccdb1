-- `keys_and_versions_decide`: what it answers.
use Rattle.td_indices.proofs.CountingLaws.{lower_packages, lower_sources, package_keys, source_keys}
use Rattle.td_indices.proofs.laws.keys_and_versions_decide.Goals as goal

pub returns : goal.returns
returns c =
    record {
      package_keys = package_keys;
      source_keys = source_keys;
      package_versions = lower_packages;
      source_versions = lower_sources;
    }
