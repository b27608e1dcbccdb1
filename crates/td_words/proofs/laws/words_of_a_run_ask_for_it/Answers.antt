-- `words_of_a_run_ask_for_it`: its clauses.
use Rattle.td_words.proofs.Asking.{asks_for_plain_run, asks_for_whole_run, run_explains}
use Rattle.td_words.proofs.WordsApart.{asks_for_plain_run_apart, asks_for_whole_run_apart}
use Rattle.td_words.proofs.laws.words_of_a_run_ask_for_it.Goals as goal

pub returns-clause-plain : goal.returns-clause-plain
returns-clause-plain c = asks_for_plain_run

pub returns-clause-whole : goal.returns-clause-whole
returns-clause-whole c = asks_for_whole_run

pub returns-clause-plain_separate : goal.returns-clause-plain_separate
returns-clause-plain_separate c = asks_for_plain_run_apart

pub returns-clause-whole_separate : goal.returns-clause-whole_separate
returns-clause-whole_separate c = asks_for_whole_run_apart

pub returns-clause-explained : goal.returns-clause-explained
returns-clause-explained c = run_explains
