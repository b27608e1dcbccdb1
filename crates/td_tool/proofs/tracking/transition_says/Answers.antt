-- `transition_says`: what it answers.
use Rattle.std.proofs.Common.{string_bytes}
use Rattle.std.proofs.lemmas.Result.{IfOk-weaker}
use Rattle.td_query.specs.Tracking.{tracking}
use Rattle.td_report.specs.TransitionView.{contents_of, tracking_of}
use Rattle.td_tool.specs.TrackInside.{listed_of}
use Rattle.td_tool.proofs.Told.{told_of}
use Rattle.td_tool.proofs.tracking.transition_says.Goals as goal

pub returns : goal.returns
returns g c =
    let x = c.in_ok-transition.transition in
    let Says = listed_of c.args.listing in
    IfOk-weaker c.listed.result
    (λ text. Says (contents_of x) (tracking_of x) c.args.rows.now (string_bytes text))
    (λ text.
    Says c.args.archive.now (tracking c.args.tracker.now) c.args.rows.now (string_bytes text))
    (λ text says. told_of Says _ _ _ _ c.args.rows.now
    (string_bytes text) c.in_ok-transition.ensures.archive c.in_ok-transition.ensures.tracking says)
    c.listed.ensures
