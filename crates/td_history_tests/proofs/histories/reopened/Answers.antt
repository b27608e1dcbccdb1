-- `reopened`: the call of `reopen`.
use Rattle.std.proofs.Common.{sym, subst}
use Rattle.td_rows.specs.Table.{Table}
use Rattle.td_journal.specs.Entries.{standing}
use Rattle.td_journal.specs.Replay.{Lawful}
use Rattle.td_history_tests.proofs.histories.reopened.Goals as goal

pub reopen-requires-clause-lawful : goal.reopen-requires-clause-lawful
reopen-requires-clause-lawful c =
    subst (λ (t : Table). Lawful t (standing c.in_ok-journal.journal.entries))
    (sym c.opening.view_is) c.in_ok-journal.ensures.found.entries.lawful
