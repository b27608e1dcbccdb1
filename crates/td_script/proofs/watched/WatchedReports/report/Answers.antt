-- `WatchedReports::report`: what it answers and the call of `report_counted`.
use Rattle.std.proofs.Common.{◌≡◌, ◌∙◌, ap, string_bytes, subst, sym}
use Rattle.std.proofs.lemmas.Result.{IfOk-weaker}
use Rattle.td_core.specs.History.{rows_of}
use Rattle.td_core.proofs.Phases.{keys_of-rows_of}
use Rattle.td_report.specs.Groups.{AreCounts}
use Rattle.td_report.specs.Transition.{IsReport}
use Rattle.td_report.specs.TransitionView.{contents_of, depth_of, level_of, tracking_of}
use Rattle.td_script.specs.Reporting.{report_by}
use Rattle.td_script.proofs.ReportLaws.{report_once}
use Rattle.td_script.proofs.WatchLaws.{are-counts}
use Rattle.td_script.proofs.watched.WatchedReports.report.Goals as goal

pub returns : goal.returns
returns c =
    let x = c.args.self.now.transition.now in
    IfOk-weaker c.report_counted.result
    (λ text. IsReport (contents_of x) (tracking_of x) c.rows.result.now (string_bytes text))
    (λ text. string_bytes text ≡ report_by x (rows_of c.args.book.now.history))
    (λ text is. report_once (contents_of x) (tracking_of x) (level_of x)
    (depth_of x) c.rows.result.now (string_bytes text) c.requires.made.leveled is
    ∙ ap (report_by x) c.rows.ensures.rows)
    c.report_counted.ensures

pub report_counted-requires-clause-counts : goal.report_counted-requires-clause-counts
report_counted-requires-clause-counts c =
    let x = c.args.self.now.transition.now in
    let b = c.args.book.now in
    let rows = rows_of b.history in
    subst (λ t. AreCounts x t c.deref.result.now) (sym c.rows.ensures.rows)
    (subst (λ l. AreCounts x rows l) (sym c.deref.ensures.value)
    (are-counts x b.history.opening rows b.fixed.watch c.in_ok-counts.counts.items
    (keys_of-rows_of b.history) c.requires.watch c.in_ok-counts.ensures))
