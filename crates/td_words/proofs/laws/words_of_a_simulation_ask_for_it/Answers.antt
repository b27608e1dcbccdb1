-- `words_of_a_simulation_ask_for_it`: what it answers.
use Rattle.td_words.proofs.Asking.{asks_for_simulation}
use Rattle.td_words.proofs.laws.words_of_a_simulation_ask_for_it.Goals as goal

pub returns : goal.returns
returns c = asks_for_simulation
