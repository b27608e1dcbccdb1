-- `is_found`: the clause `same`.
use Rattle.std.proofs.Common.{ap, ◌∙◌}
use Rattle.std.proofs.Math.Seq.{map-set_same}
use Rattle.regex.specs.Strings.{matcher_pattern}
use Rattle.td_query.proofs.truth.is_found.Goals as goal

pub returns-clause-same : goal.returns-clause-same
returns-clause-same c = map-set_same matcher_pattern _ _ _ _
    (c.is_match.ensures.same ∙ ap matcher_pattern c.index_mut.ensures.value)
