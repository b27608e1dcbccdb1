-- `fields_match_by_their_values`: the clauses `absent`, `texts` and `patterns`.
use Rattle.td_query.proofs.Meanings.{absent_fields, patterns_match, texts}
use Rattle.td_query.proofs.laws.fields_match_by_their_values.Goals as goal

pub returns-clause-absent : goal.returns-clause-absent
returns-clause-absent c = absent_fields

pub returns-clause-texts : goal.returns-clause-texts
returns-clause-texts c = texts

pub returns-clause-patterns : goal.returns-clause-patterns
returns-clause-patterns c = patterns_match
