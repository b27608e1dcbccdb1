-- `words_of_a_desk_ask_for_it`: the clauses `joined`, `separate` and `explained`.
use Rattle.td_words.proofs.DeskAsking.{asks_for_desk, desk_explains}
use Rattle.td_words.proofs.DeskApart.{asks_for_desk_apart}
use Rattle.td_words.proofs.laws.words_of_a_desk_ask_for_it.Goals as goal

pub returns-clause-joined : goal.returns-clause-joined
returns-clause-joined c = asks_for_desk

pub returns-clause-separate : goal.returns-clause-separate
returns-clause-separate c = asks_for_desk_apart

pub returns-clause-explained : goal.returns-clause-explained
returns-clause-explained c = desk_explains
