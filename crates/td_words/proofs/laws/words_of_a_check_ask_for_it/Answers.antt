-- `words_of_a_check_ask_for_it`: the clauses `joined`, `separate` and `explained`.
use Rattle.td_words.proofs.CheckAsking.{asks_for_check, check_explains}
use Rattle.td_words.proofs.WordsApart.{asks_apart}
use Rattle.td_words.proofs.laws.words_of_a_check_ask_for_it.Goals as goal

pub returns-clause-joined : goal.returns-clause-joined
returns-clause-joined c = asks_for_check

pub returns-clause-separate : goal.returns-clause-separate
returns-clause-separate c = asks_apart

pub returns-clause-explained : goal.returns-clause-explained
returns-clause-explained c = check_explains
