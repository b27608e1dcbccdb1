-- `rows_are_graded_by_their_stanzas`: the clauses `stanzas`, `graded` and `alone`.
use Rattle.td_query.proofs.Grades.{by_a_stanza, graded_rows, rows_alone}
use Rattle.td_query.proofs.laws.rows_are_graded_by_their_stanzas.Goals as goal

pub returns-clause-stanzas : goal.returns-clause-stanzas
returns-clause-stanzas c = by_a_stanza

pub returns-clause-graded : goal.returns-clause-graded
returns-clause-graded c = graded_rows

pub returns-clause-alone : goal.returns-clause-alone
returns-clause-alone c = rows_alone
