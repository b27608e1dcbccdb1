-- `reopenings_are_steps`: the clauses `histories` and `books`.
use Rattle.td_steps.proofs.Openings.{histories_open}
use Rattle.td_steps.proofs.Reopenings.{reopenings_are_steps}
use Rattle.td_steps.proofs.laws.reopenings_are_steps.Goals as goal

pub returns-clause-histories : goal.returns-clause-histories
returns-clause-histories c = histories_open

pub returns-clause-books : goal.returns-clause-books
returns-clause-books c = reopenings_are_steps
