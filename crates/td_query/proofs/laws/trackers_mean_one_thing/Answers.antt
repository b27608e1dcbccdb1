-- `trackers_mean_one_thing`: what it answers.
use Rattle.td_query.proofs.OneStatus.{rows_have_one_status}
use Rattle.td_query.proofs.SameTrackers.{trackers_are_one, trackers_are_there, trackers_hold_alike}
use Rattle.td_query.proofs.laws.trackers_mean_one_thing.Goals as goal

pub returns : goal.returns
returns c =
    record {
      there = trackers_are_there;
      one = trackers_are_one;
      truth = trackers_hold_alike;
      status = rows_have_one_status;
    }
