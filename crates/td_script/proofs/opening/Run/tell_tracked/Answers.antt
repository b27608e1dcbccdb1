-- `Run::tell_tracked`: the clause `tells`.
use Rattle.std.proofs.Common.{Some, refl}
use Rattle.td_query.specs.Tracking.{tracking}
use Rattle.td_report.specs.TransitionView.{contents_of, depth_of, level_of, tracking_of}
use Rattle.td_script.specs.OpeningInside.{IsTrackerOf}
use Rattle.td_script.specs.Openings.{texts_lent}
use Rattle.td_script.specs.Reporting.{report_by}
use Rattle.td_script.proofs.OpeningLaws.{tells_from, tracker_given, tracker_reports}
use Rattle.td_script.proofs.opening.Run.tell_tracked.Goals as goal

pub returns-in-Ok-clause-tells : goal.returns-in-Ok-clause-tells
returns-in-Ok-clause-tells g c =
    let run = c.args.self.now in
    let x = texts_lent run.files in
    let y = c.in-Ok.transition in
    let t = tracking c.args.given.now.tracker in
    let is : IsTrackerOf x t =
    (c.args.given.now.text.now, c.requires.given, c.requires.tracker) in
    tells_from (g.S.Staff.tells run.staff.now) x c.args.archive.now
    (Some (report_by y)) c.args.rows run.script.now c.tell_from-told.result
    c.tell_from-told.ensures.told c.tell_from-told.ensures.refused c.requires.archive
    c.requires.rows
    (tracker_reports x c.args.archive.now (contents_of y) t (tracking_of y) (level_of y)
    (depth_of y) (report_by y) c.in-Ok.ensures.archive c.in-Ok.ensures.tracking is
    c.in-Ok.ensures.made.leveled (λ rows. refl))
    (tracker_given x t is)
