-- `an_undo_is_refused_where_blocked`: the clauses `blocked`, `undone` and `won`.
use Rattle.td_steps.proofs.Books.{blocked_exactly, undone_else}
use Rattle.td_steps.proofs.Winning.{won_names_the_latest}
use Rattle.td_steps.proofs.laws.an_undo_is_refused_where_blocked.Goals as goal

pub returns-clause-blocked : goal.returns-clause-blocked
returns-clause-blocked c = blocked_exactly

pub returns-clause-undone : goal.returns-clause-undone
returns-clause-undone c = undone_else

pub returns-clause-won : goal.returns-clause-won
returns-clause-won c = won_names_the_latest
