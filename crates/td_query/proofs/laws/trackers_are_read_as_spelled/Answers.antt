-- `trackers_are_read_as_spelled`: what it answers.
use Rattle.td_query.proofs.Gaps.{gaps_are_exact, last_gaps_are_exact}
use Rattle.td_query.proofs.SpelledQueries.{parts_are_exact, queries_are_exact}
use Rattle.td_query.proofs.SpelledTrackers.{trackers_are_exact}
use Rattle.td_query.proofs.laws.trackers_are_read_as_spelled.Goals as goal

pub returns : goal.returns
returns c =
    record {
      gaps = gaps_are_exact;
      last_gaps = last_gaps_are_exact;
      parts = parts_are_exact;
      queries = queries_are_exact;
      trackers = trackers_are_exact;
    }
