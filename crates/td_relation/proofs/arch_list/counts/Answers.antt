-- `counts`: what it answers.
use Rattle.std.proofs.Common.{◌∙◌, ap, sym, cond, not}
use Rattle.std.specs.List.{slice_split}
use Rattle.td_relation.specs.Arch.{words_of}
use Rattle.td_text.specs.Runs.{is_space}
use Rattle.td_relation.proofs.MemberLaws.{counts-by}
use Rattle.td_relation.proofs.arch_list.counts.Goals as goal

pub returns-then-negated : goal.returns-then-negated
returns-then-negated c =
    let h = counts-by (words_of c.args.arch.now) (slice_split is_space c.args.list.now)
    c.has_negated-negated.result c.has_match-matched.result c.has_negated-negated.ensures
    c.has_match-matched.ensures in
    sym (ap (λ b. cond b (not c.has_match-matched.result) c.has_match-matched.result)
    c.if-negated.true) ∙ h

pub returns-else-negated : goal.returns-else-negated
returns-else-negated c =
    let h = counts-by (words_of c.args.arch.now) (slice_split is_space c.args.list.now)
    c.has_negated-negated.result c.has_match-matched.result c.has_negated-negated.ensures
    c.has_match-matched.ensures in
    sym (ap (λ b. cond b (not c.has_match-matched.result) c.has_match-matched.result)
    c.if-negated.false) ∙ h
