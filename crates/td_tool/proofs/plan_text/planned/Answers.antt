-- `planned`: what it answers.
use Rattle.std.proofs.Common.{refl, sym}
use Rattle.std.proofs.lemmas.Result.{IfOk-weaker}
use Rattle.td_query.specs.Tracking.{tracking}
use Rattle.td_tool.specs.Tracks.{premises_of}
use Rattle.td_tool.proofs.plan_text.planned.Goals as goal

pub returns : goal.returns
returns g c =
    let p = premises_of c.args.archive.now (tracking c.args.tracker.now) c.args.rows.now in
    IfOk-weaker c.lines_of.result _ _
    (λ said is.
    is p (record { archive = refl; marks = c.in_ok-marks.ensures.marks; rows = refl })
    c.requires.planned (sym c.title.ensures.title))
    c.lines_of.ensures
