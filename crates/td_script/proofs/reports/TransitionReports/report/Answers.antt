-- `TransitionReports::report`: what it answers.
use Rattle.std.proofs.Common.{◌≡◌, ◌∙◌, ap, string_bytes}
use Rattle.td_core.specs.History.{rows_of}
use Rattle.std.proofs.lemmas.Result.{IfOk-weaker}
use Rattle.td_report.specs.Transition.{IsReport}
use Rattle.td_report.specs.TransitionView.{contents_of, depth_of, level_of, tracking_of}
use Rattle.td_script.specs.Reporting.{report_by}
use Rattle.td_script.proofs.ReportLaws.{report_once}
use Rattle.td_script.proofs.reports.TransitionReports.report.Goals as goal

pub returns : goal.returns
returns c =
    let x = c.args.self.now in
    IfOk-weaker c.report.result
    (λ text. IsReport (contents_of x) (tracking_of x) c.rows.result.now (string_bytes text))
    (λ text. string_bytes text ≡ report_by x (rows_of c.args.book.now.history))
    (λ text is. report_once (contents_of x) (tracking_of x) (level_of x)
    (depth_of x) c.rows.result.now (string_bytes text) c.requires.leveled is
    ∙ ap (report_by x) c.rows.ensures.rows)
    c.report.ensures
