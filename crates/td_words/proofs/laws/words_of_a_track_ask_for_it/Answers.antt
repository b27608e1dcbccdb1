-- `words_of_a_track_ask_for_it`: its clauses.
use Rattle.td_words.proofs.Asking.{asks_for_track, shown_words_ask, track_explains}
use Rattle.td_words.proofs.WordsApart.{asks_for_track_apart}
use Rattle.td_words.proofs.laws.words_of_a_track_ask_for_it.Goals as goal

pub returns-clause-joined : goal.returns-clause-joined
returns-clause-joined c = asks_for_track

pub returns-clause-separate : goal.returns-clause-separate
returns-clause-separate c = asks_for_track_apart

pub returns-clause-explained : goal.returns-clause-explained
returns-clause-explained c = track_explains

pub returns-clause-shown : goal.returns-clause-shown
returns-clause-shown c = shown_words_ask
