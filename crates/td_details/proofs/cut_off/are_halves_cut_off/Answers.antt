-- `are_halves_cut_off`: the rest decides, or the front if the rest is empty.
use Rattle.std.proofs.Common.{◌≡◌, ◌<◌, ◌∙◌, length, rules, sym}
use Rattle.td_details.proofs.EndsOfTexts.{cut_before, cut_behind}
use Rattle.td_details.proofs.cut_off.are_halves_cut_off.Goals as goal

pub returns-then-is_empty : goal.returns-then-is_empty
returns-then-is_empty c =
    let none : length c.args.rest.now ≡ 0 = search rules in
    c.is_cut_off.ensures ∙ sym (cut_before c.args.front.now c.args.rest.now none)

pub returns-else-is_empty : goal.returns-else-is_empty
returns-else-is_empty c =
    let some : 0 < length c.args.rest.now = search rules in
    c.is_cut_off-else-is_empty.ensures ∙ sym (cut_behind c.args.front.now c.args.rest.now some)
