-- `calls_are_steps`: the clauses `calls`, `opening` and `reopened`.
use Rattle.td_steps.proofs.Calls.{calls_are_steps, books_are_steps}
use Rattle.td_steps.proofs.Reopenings.{reopened_books_are_steps}
use Rattle.td_steps.proofs.laws.calls_are_steps.Goals as goal

pub returns-clause-calls : goal.returns-clause-calls
returns-clause-calls c = calls_are_steps

pub returns-clause-opening : goal.returns-clause-opening
returns-clause-opening c = books_are_steps

pub returns-clause-reopened : goal.returns-clause-reopened
returns-clause-reopened c = reopened_books_are_steps
