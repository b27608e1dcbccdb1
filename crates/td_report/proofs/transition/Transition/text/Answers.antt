-- `Transition::text`: what it answers and the call of `report_text`.
use Rattle.std.proofs.Common.{◌≡◌, map, string_bytes}
use Rattle.std.proofs.lemmas.Result.{IfOk-weaker}
use Rattle.td_text.specs.Lines.{text_of}
use Rattle.td_report.specs.inner.ItemLines.{seen}
use Rattle.td_report.specs.Report.{lines_showing}
use Rattle.td_report.specs.Transition.{IsReportOf}
use Rattle.td_report.specs.TransitionView.{contents_of, depth_of, level_of, tracking_of}
use Rattle.td_report.proofs.Counts.{counts_read}
use Rattle.td_report.proofs.Items.{is_report}
use Rattle.td_report.proofs.transition.Transition.text.Goals as goal

pub returns : goal.returns
returns g c =
    let self = c.args.self.now in
    let shown = g.L.Lines.shown c.args.lines.now in
    IfOk-weaker c.report_text.result
    (λ text. string_bytes text ≡ text_of
    (lines_showing shown c.title.result.now c.depth-depth.result (map seen c.deref.result.now)))
    (λ text. IsReportOf shown (contents_of self) (tracking_of self) c.args.rows.now
    (string_bytes text))
    (λ text written. is_report shown (contents_of self) (tracking_of self) (level_of self)
    (depth_of self) c.args.rows.now c.in_ok-items.items.items c.deref.result.now
    c.title.result.now c.depth-depth.result (string_bytes text)
    c.requires.made.leveled written c.title.ensures.title c.depth-depth.ensures
    c.deref.ensures.value c.in_ok-items.ensures)
    c.report_text.ensures

pub report_text-requires-clause-counts : goal.report_text-requires-clause-counts
report_text-requires-clause-counts g c =
    counts_read c.args.self.now c.args.rows.now c.in_ok-items.items.items c.deref.result.now
    c.depth-depth.result c.args.counts c.requires.made.leveled.deep c.in_ok-items.ensures
    c.deref.ensures.value c.depth-depth.ensures c.requires.counts
