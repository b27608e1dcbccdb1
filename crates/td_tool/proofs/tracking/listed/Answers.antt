-- `listed`: what it answers.
use Rattle.std.proofs.Common.{IfOk, string_bytes, sym, subst}
use Rattle.td_report.specs.TransitionView.{contents_of, tracking_of}
use Rattle.td_tool.specs.TrackInside.{listed_of}
use Rattle.td_tool.proofs.tracking.listed.Goals as goal

pub returns-in-Report : goal.returns-in-Report
returns-in-Report g c =
    let x = c.args.transition.now in
    subst (λ a. IfOk c.reported.result
    (λ text. listed_of a (contents_of x) (tracking_of x) c.args.rows.now (string_bytes text)))
    (sym c.in-Report.is) c.reported.ensures

pub returns-in-Waves : goal.returns-in-Waves
returns-in-Waves g c =
    let x = c.args.transition.now in
    subst (λ a. IfOk c.waves.result
    (λ text. listed_of a (contents_of x) (tracking_of x) c.args.rows.now (string_bytes text)))
    (sym c.in-Waves.is) c.waves.ensures
