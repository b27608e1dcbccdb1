-- `right_bytes_go_on`: what it answers.
use Rattle.td_query.proofs.ContinuedTrackers.{right_bytes_are_of_trackers, right_bytes_are_text}
use Rattle.td_query.proofs.ContinuedTrackers.{right_bytes_go_on}
use Rattle.td_query.proofs.laws.right_bytes_go_on.Goals as goal

pub returns : goal.returns
returns c =
    record {
      text = right_bytes_are_text;
      read = right_bytes_go_on;
      trackers = right_bytes_are_of_trackers;
    }
