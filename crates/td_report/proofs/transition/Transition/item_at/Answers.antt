-- `Transition::item_at`: what it answers if the source is at no level, and else.
use Rattle.std.proofs.Common.{None, option_map, sym, ap, ◌∙◌}
use Rattle.std.specs.Option.{option_map_or}
use Rattle.td_report.specs.Transition.{affected_row}
use Rattle.td_report.specs.TransitionView.{contents_of, depth_of, level_of, tracking_of}
use Rattle.td_report.specs.inner.ItemLines.{seen}
use Rattle.td_report.proofs.Unaffected.{affected_row-none}
use Rattle.td_report.proofs.transition.Transition.item_at.Goals as goal

pub returns-in_err-level : goal.returns-in_err-level
returns-in_err-level c =
    let x = c.args.self.now in
    let none = affected_row-none (contents_of x) (tracking_of x) (level_of x) (depth_of x)
    (c.in_ok-key.key.now, c.in_ok-key.row.now) c.requires.leveled
    (ap (level_of x) (sym c.source.ensures.text) ∙ sym c.in_err-level.ensures) in
    ap (option_map seen) c.from_residual-in_err-level.ensures ∙ sym none
    ∙ ap (λ o. option_map_or (affected_row (contents_of x) (tracking_of x) (level_of x)) o None)
    c.in_ok-key.ensures
