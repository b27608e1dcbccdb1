-- `rows_are_replayed`: its clauses.
use Rattle.td_steps.proofs.Books.{entries_stay, watched_stay, rows_are_replayed}
use Rattle.td_steps.proofs.Lawful.{entries_are_lawful}
use Rattle.td_steps.proofs.Reopenings.{reopened_are_replayed}
use Rattle.td_steps.proofs.laws.rows_are_replayed.Goals as goal

pub returns-clause-entries : goal.returns-clause-entries
returns-clause-entries c = entries_stay

pub returns-clause-watched : goal.returns-clause-watched
returns-clause-watched c = watched_stay

pub returns-clause-rows : goal.returns-clause-rows
returns-clause-rows c = rows_are_replayed

pub returns-clause-lawful : goal.returns-clause-lawful
returns-clause-lawful c = entries_are_lawful

pub returns-clause-reopened : goal.returns-clause-reopened
returns-clause-reopened c = reopened_are_replayed
