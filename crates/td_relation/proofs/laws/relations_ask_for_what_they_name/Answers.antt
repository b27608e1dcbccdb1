-- `relations_ask_for_what_they_name`: what it answers.
use Rattle.td_relation.proofs.MeetingLaws.{lists_count_so, more_still_meets}
use Rattle.td_relation.proofs.MeetingLaws.{others_make_no_difference}
use Rattle.td_relation.proofs.laws.relations_ask_for_what_they_name.Goals as goal

pub returns : goal.returns
returns c =
    record { others = others_make_no_difference; more = more_still_meets; lists = lists_count_so }
