-- `Outcomes::read`: the clause `found`.
use Rattle.std.proofs.Common.{map, ap, ◌∙◌}
use Rattle.td_builder.specs.declared.key_line.KeyLine.{KeyLine}
use Rattle.td_builder.proofs.KeyLists.{codes_numbered}
use Rattle.td_builder.proofs.outcomes.Outcomes.read.Goals as goal

pub returns-clause-found : goal.returns-clause-found
returns-clause-found c =
    let f = c.in_ok-lines.ensures.found in
    (f.0, f.1, λ k. ap (map (λ (l : KeyLine). l.code)) (f.3 k) ∙ codes_numbered k 0 f.0)
