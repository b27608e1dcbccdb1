-- `versions_are_ordered`: what it answers.
use Rattle.td_version.proofs.Total as total
use Rattle.td_version.proofs.Turns.{pairs_are_runs}
use Rattle.td_version.proofs.laws.versions_are_ordered.Goals as goal

pub returns : goal.returns
returns c = record {
  reflexive = total.version_reflexive;
  total = total.version_turns;
  transitive = total.version_transitive;
  order = total.version_total;
  coarse = total.coarse;
  runs = pairs_are_runs;
}
