-- `queries_are_read_by_their_rules`: what it answers.
use Rattle.td_query.proofs.QueryRules.{and_binds_before_or, and_binds_behind_or, brackets_are_read}
use Rattle.td_query.proofs.QueryRules.{conjunctions_are_read, disjunctions_are_read}
use Rattle.td_query.proofs.QueryRules.{long_conjunctions, long_disjunctions}
use Rattle.td_query.proofs.QueryRules.{negations_are_read, not_before_and, not_before_or}
use Rattle.td_query.proofs.QueryRules.{parts_are_read}
use Rattle.td_query.proofs.laws.queries_are_read_by_their_rules.Goals as goal

pub returns : goal.returns
returns c =
    record {
      negation = negations_are_read;
      brackets = brackets_are_read;
      parts = parts_are_read;
      conjunction = conjunctions_are_read;
      disjunction = disjunctions_are_read;
      before = and_binds_before_or;
      behind = and_binds_behind_or;
      conjunction_of_three = long_conjunctions;
      disjunction_of_three = long_disjunctions;
      not_before_and = not_before_and;
      not_before_or = not_before_or;
    }
