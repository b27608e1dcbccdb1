-- `keys_say_what_is_read`: what it answers.
use Rattle.td_query.proofs.KeyRules.{entries_are_said, queries_are_said, titles_are_said}
use Rattle.td_query.proofs.laws.keys_say_what_is_read.Goals as goal

pub returns : goal.returns
returns c =
    record { queries = queries_are_said; titles = titles_are_said; entries = entries_are_said }
