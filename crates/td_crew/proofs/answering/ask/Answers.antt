-- The request that asked for what changes nothing.
use Rattle.td_script.specs.declared.request.Request.TheVariants as requests
use Rattle.td_desk.specs.Calls.{IsMetBy}
use Rattle.td_script.specs.Settings.{setting_lent}
use Rattle.td_crew.proofs.Replied.{asked_for}
use Rattle.td_crew.proofs.answering.ask.Goals as goal

pub returns-in-Row-clause-says : goal.returns-in-Row-clause-says
returns-in-Row-clause-says g c =
    asked_for
    (IsMetBy g.N.Named.table g.N.Named.origin g.N.Named.opened c.args.clerk.now.parts)
    (setting_lent g.T.Reports.text g.N.Named.origin.stock c.args.lines.now.suites.now
    c.args.lines.now.reports)
    (requests.Row c.in-Row.key) _ c.show.result _ _ c.args.clerk.now _ c.in-Row.is
    c.show.ensures.same c.show.ensures.says

pub returns-in-Entry-clause-says : goal.returns-in-Entry-clause-says
returns-in-Entry-clause-says g c =
    asked_for
    (IsMetBy g.N.Named.table g.N.Named.origin g.N.Named.opened c.args.clerk.now.parts)
    (setting_lent g.T.Reports.text g.N.Named.origin.stock c.args.lines.now.suites.now
    c.args.lines.now.reports)
    (requests.Entry c.in-Entry.n) _ c.show-in-Entry.result _ _ c.args.clerk.now _ c.in-Entry.is
    c.show-in-Entry.ensures.same c.show-in-Entry.ensures.says

pub returns-in-Report-clause-says : goal.returns-in-Report-clause-says
returns-in-Report-clause-says g c =
    asked_for
    (IsMetBy g.N.Named.table g.N.Named.origin g.N.Named.opened c.args.clerk.now.parts)
    (setting_lent g.T.Reports.text g.N.Named.origin.stock c.args.lines.now.suites.now
    c.args.lines.now.reports)
    requests.Report _ c.show-in-Report.result _ _ c.args.clerk.now _ c.in-Report.is
    c.show-in-Report.ensures.same c.show-in-Report.ensures.says

pub returns-in-Journal-clause-says : goal.returns-in-Journal-clause-says
returns-in-Journal-clause-says g c =
    asked_for
    (IsMetBy g.N.Named.table g.N.Named.origin g.N.Named.opened c.args.clerk.now.parts)
    (setting_lent g.T.Reports.text g.N.Named.origin.stock c.args.lines.now.suites.now
    c.args.lines.now.reports)
    requests.Journal _ c.show-in-Journal.result _ _ c.args.clerk.now _ c.in-Journal.is
    c.show-in-Journal.ensures.same c.show-in-Journal.ensures.says
