-- `history`: the call of `reopen`.
use Rattle.td_history_tests.proofs.histories.history.Goals as goal

pub reopen-requires : goal.reopen-requires
reopen-requires c = record { lawful = c.in_ok-journal.ensures.found.entries.lawful }
