-- `is_profile_list`: what it answers.
use Rattle.std.proofs.Common.{◌∙◌, ◌&&◌, Bool, ap, sym}
use Rattle.std.specs.List.{slice_split}
use Rattle.td_text.specs.Runs.{is_space}
use Rattle.td_relation.proofs.PieceLaws.{is_profile_list-by}
use Rattle.td_relation.proofs.arch_list.is_profile_list.Goals as goal

pub returns-then-filled : goal.returns-then-filled
returns-then-filled c =
    sym (ap (λ (b : Bool). b && c.are_profiles-profiles.result) c.if-filled.true)
    ∙ is_profile_list-by (slice_split is_space c.args.list.now) c.has_words-filled.result
    c.are_profiles-profiles.result c.has_words-filled.ensures c.are_profiles-profiles.ensures

pub returns-else-filled : goal.returns-else-filled
returns-else-filled c =
    c.if-filled.false ∙ (sym
    (ap (λ (b : Bool). b && c.are_profiles-profiles.result) c.if-filled.false)
    ∙ is_profile_list-by (slice_split is_space c.args.list.now) c.has_words-filled.result
    c.are_profiles-profiles.result c.has_words-filled.ensures c.are_profiles-profiles.ensures)
