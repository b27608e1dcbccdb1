-- `words_of_waves_ask_for_them`: the clauses `joined`, `separate` and `explained`.
use Rattle.td_words.proofs.Asking.{asks_for_waves, waves_explain}
use Rattle.td_words.proofs.WordsApart.{asks_for_waves_apart}
use Rattle.td_words.proofs.laws.words_of_waves_ask_for_them.Goals as goal

pub returns-clause-joined : goal.returns-clause-joined
returns-clause-joined c = asks_for_waves

pub returns-clause-separate : goal.returns-clause-separate
returns-clause-separate c = asks_for_waves_apart

pub returns-clause-explained : goal.returns-clause-explained
returns-clause-explained c = waves_explain
