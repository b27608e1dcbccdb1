-- `Transition::waves`: what it answers.
use Rattle.std.proofs.Common.{◌≡◌, map, string_bytes}
use Rattle.std.proofs.lemmas.Result.{IfOk-weaker}
use Rattle.td_text.specs.Lines.{text_of}
use Rattle.td_report.specs.inner.ItemLines.{seen}
use Rattle.td_report.specs.Report.{waves_lines}
use Rattle.td_report.specs.Transition.{IsWaves}
use Rattle.td_report.specs.TransitionView.{contents_of, depth_of, level_of, tracking_of}
use Rattle.td_report.proofs.Items.{are_waves}
use Rattle.td_report.proofs.transition.Transition.waves.Goals as goal

pub returns : goal.returns
returns c =
    let self = c.args.self.now in
    IfOk-weaker c.waves_text.result
    (λ text. string_bytes text ≡ text_of
    (waves_lines c.depth.result (map seen c.deref.result.now)))
    (λ text. IsWaves (contents_of self) (tracking_of self) c.args.rows.now (string_bytes text))
    (λ text written. are_waves (contents_of self) (tracking_of self) (level_of self)
    (depth_of self) c.args.rows.now c.in_ok-items.items.items c.deref.result.now
    c.depth.result (string_bytes text)
    c.requires.leveled written c.depth.ensures c.deref.ensures.value c.in_ok-items.ensures)
    c.waves_text.ensures
