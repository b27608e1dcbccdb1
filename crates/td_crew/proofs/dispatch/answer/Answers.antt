-- A line that says nothing, and one that can't be read.
use Rattle.td_desk.specs.Calls.{IsMetBy}
use Rattle.td_script.specs.Settings.{setting_lent}
use Rattle.td_crew.proofs.Replied.{bad_said, skipped_said}
use Rattle.td_crew.proofs.dispatch.answer.Goals as goal

pub returns-in-Skipped-clause-says : goal.returns-in-Skipped-clause-says
returns-in-Skipped-clause-says g c =
    skipped_said (IsMetBy g.N.Named.table g.N.Named.origin g.N.Named.opened c.args.clerk.now.parts)
    (setting_lent g.T.Reports.text g.N.Named.origin.stock c.args.lines.now.suites.now
    c.args.lines.now.reports)
    c.args.line.now _ _ c.in_ok-read_line.field-0 c.in_ok-read_line.ensures
    c.in-Skipped.is

pub returns-in_ok-bad_line-in-Bad-clause-says : goal.returns-in_ok-bad_line-in-Bad-clause-says
returns-in_ok-bad_line-in-Bad-clause-says g c =
    bad_said (IsMetBy g.N.Named.table g.N.Named.origin g.N.Named.opened c.args.clerk.now.parts)
    (setting_lent g.T.Reports.text g.N.Named.origin.stock c.args.lines.now.suites.now
    c.args.lines.now.reports)
    c.args.line.now _ _ _ c.in_ok-read_line.field-0 c.in_ok-read_line.ensures
    c.in-Bad.is c.in_ok-bad_line-in-Bad.ensures.ok
