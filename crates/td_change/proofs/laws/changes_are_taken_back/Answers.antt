-- `changes_are_taken_back`: the clauses `at_once`, `past_others` and `lawful`.
use Rattle.td_change.proofs.Passing.{back_at_once, back_past_others, lawful_without}
use Rattle.td_change.proofs.laws.changes_are_taken_back.Goals as goal

pub returns-clause-at_once : goal.returns-clause-at_once
returns-clause-at_once c = back_at_once

pub returns-clause-past_others : goal.returns-clause-past_others
returns-clause-past_others c = back_past_others

pub returns-clause-lawful : goal.returns-clause-lawful
returns-clause-lawful c = lawful_without
