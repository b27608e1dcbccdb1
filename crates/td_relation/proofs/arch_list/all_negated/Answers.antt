-- `all_negated`: what it answers.
use Rattle.std.proofs.Common.{rules, tests, ◌∙◌}
use Rattle.std.proofs.lemmas.Iterator.Search.{all_from_yields_List}
use Rattle.std.proofs.lemmas.Iterator.Splits.{YieldsList-from_slice_split}
use Rattle.td_relation.proofs.arch_list.all_negated.Goals as goal

pub returns : goal.returns
returns c =
    all_from_yields_List _ _ _ c.all.result c.all.ensures.ran
    (YieldsList-from_slice_split _ _ c.args.list.now
    (c.split.ensures.rest ∙ c.as_bytes.ensures.value) c.split.ensures.done c.split.ensures.closure
    (λ x r q k. search (rules, tests))) (λ x r q k. search (rules, tests))
