-- A view is put in the words of scripts as its request is.
use Rattle.std.proofs.Common.{option_map}
use Rattle.td_crew.specs.declared.shown.View.TheVariants as views
use Rattle.td_crew.proofs.Replied.{viewed}
use Rattle.td_crew.proofs.shown.put_view.Goals as goal

pub returns-in-Row : goal.returns-in-Row
returns-in-Row g c =
    viewed (option_map (λ r. g.T.Reports.text r.now) c.args.reports) c.args.book.now c.args.view
    (views.Row c.in-Row.key) c.show_row.result _ _ c.in-Row.is c.show_row.ensures.ok

pub returns-in-Entry : goal.returns-in-Entry
returns-in-Entry g c =
    viewed (option_map (λ r. g.T.Reports.text r.now) c.args.reports) c.args.book.now c.args.view
    (views.Entry c.in-Entry.n) c.show_entry.result _ _ c.in-Entry.is c.show_entry.ensures.ok

pub returns-in-Report : goal.returns-in-Report
returns-in-Report g c =
    viewed (option_map (λ r. g.T.Reports.text r.now) c.args.reports) c.args.book.now c.args.view
    views.Report c.show_report.result _ _ c.in-Report.is c.show_report.ensures.ok

pub returns-in-Journal : goal.returns-in-Journal
returns-in-Journal g c =
    viewed (option_map (λ r. g.T.Reports.text r.now) c.args.reports) c.args.book.now c.args.view
    views.Journal c.show_journal.result _ _ c.in-Journal.is c.show_journal.ensures.ok
