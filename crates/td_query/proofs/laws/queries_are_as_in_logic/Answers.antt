-- `queries_are_as_in_logic`: the clauses `constants`, `negation`, `conjunction` and `disjunction`.
use Rattle.td_query.proofs.Meanings.{conjunctions, constants, disjunctions, negations}
use Rattle.td_query.proofs.laws.queries_are_as_in_logic.Goals as goal

pub returns-clause-constants : goal.returns-clause-constants
returns-clause-constants c = constants

pub returns-clause-negation : goal.returns-clause-negation
returns-clause-negation c = negations

pub returns-clause-conjunction : goal.returns-clause-conjunction
returns-clause-conjunction c = conjunctions

pub returns-clause-disjunction : goal.returns-clause-disjunction
returns-clause-disjunction c = disjunctions
