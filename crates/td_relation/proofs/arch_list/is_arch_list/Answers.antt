-- `is_arch_list`: what it answers.
use Rattle.std.proofs.Common.{◌∙◌, ◌&&◌, ◌||◌, Bool, ap, sym}
use Rattle.std.specs.List.{slice_split}
use Rattle.td_text.specs.Runs.{is_space}
use Rattle.td_relation.proofs.PieceLaws.{is_arch_list-by}
use Rattle.td_relation.proofs.arch_list.is_arch_list.Goals as goal

pub returns-then-plain : goal.returns-then-plain
returns-then-plain c =
    let h = is_arch_list-by (slice_split is_space c.args.list.now) c.has_words-filled.result
    c.are_plain-plain.result c.are_negated-negated.result c.has_words-filled.ensures
    c.are_plain-plain.ensures c.are_negated-negated.ensures in
    c.if-plain.true ∙ (sym
    (ap (λ (b : Bool). b && (c.are_plain-plain.result || c.are_negated-negated.result))
    c.if-filled.true ∙ ap (λ (b : Bool). b || c.are_negated-negated.result) c.if-plain.true) ∙ h)

pub returns-else-plain : goal.returns-else-plain
returns-else-plain c =
    let h = is_arch_list-by (slice_split is_space c.args.list.now) c.has_words-filled.result
    c.are_plain-plain.result c.are_negated-negated.result c.has_words-filled.ensures
    c.are_plain-plain.ensures c.are_negated-negated.ensures in
    sym (ap (λ (b : Bool). b && (c.are_plain-plain.result || c.are_negated-negated.result))
    c.if-filled.true ∙ ap (λ (b : Bool). b || c.are_negated-negated.result) c.if-plain.false) ∙ h

pub returns-else-filled : goal.returns-else-filled
returns-else-filled c =
    let h = is_arch_list-by (slice_split is_space c.args.list.now) c.has_words-filled.result
    c.are_plain-plain.result c.are_negated-negated.result c.has_words-filled.ensures
    c.are_plain-plain.ensures c.are_negated-negated.ensures in
    c.if-filled.false ∙ (sym
    (ap (λ (b : Bool). b && (c.are_plain-plain.result || c.are_negated-negated.result))
    c.if-filled.false) ∙ h)
