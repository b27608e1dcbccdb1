-- `Skips::left`: what it answers.
use Rattle.std.proofs.Common.{◌≡◌, filter, map, ap, ◌∙◌, rules}
use Rattle.std.proofs.lemmas.Fn.{filter_same}
use Rattle.td_naming.specs.Skips.{is_left, left_of, renewed}
use Rattle.td_naming.proofs.Skipping.{left_skips}
use Rattle.td_naming.proofs.skips.Skips.left.Goals as goal

pub returns-clause-left : goal.returns-clause-left
returns-clause-left c =
    let kept : c.retain.new.self.items
    ≡ filter (is_left c.args.rows.now c.args.kind.now) c.args.doubts.items =
    filter_same _ _ _ (λ x b f' k. search rules) _ _ c.retain.ensures.filtered in
    c.renew_each.ensures ∙ ap (map (renewed c.args.rows.now)) kept

pub returns-clause-skips : goal.returns-clause-skips
returns-clause-skips c = λ matches named are.
    returns-clause-left c
    ∙ ap (λ doubts. left_of c.args.kind.now doubts c.args.rows.now) are
    ∙ left_skips matches c.args.rows.now c.args.kind.now named
