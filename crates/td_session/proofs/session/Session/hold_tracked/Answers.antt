-- `Session::hold_tracked`: how a session ends whose lines may ask for reports.
use Rattle.std.proofs.Common.{ℕ, List, [], ◌∷◌, Some, ap, option_map, refl, string_bytes}
use Rattle.td_supply.specs.Supply.{stock_of}
use Rattle.td_query.specs.Tracking.{tracking}
use Rattle.td_report.specs.TransitionView.{contents_of, depth_of, level_of, tracking_of}
use Rattle.td_script.specs.OpeningInside.{IsTrackerOf}
use Rattle.td_script.specs.Replies.{Setting}
use Rattle.td_script.specs.Reporting.{report_by}
use Rattle.td_script.proofs.OpeningLaws.{tracker_reports}
use Rattle.td_session.specs.Grounds.{texts_of}
use Rattle.td_session.proofs.Endings.{over_ground, turn_over}
use Rattle.td_session.proofs.Grounds.{is_ground}
use Rattle.td_session.proofs.session.Session.hold_tracked.Goals as goal

pub hold_found-requires-clause-turn : goal.hold_found-requires-clause-turn
hold_found-requires-clause-turn g c = λ r w turn.
    let x = texts_of c.args.self.now.texts.now in
    let a = c.args.archive.now in
    let ground = c.args.ground in
    let y = c.in-Ok.transition in
    let t = tracking c.args.given.now.tracker in
    let is : IsTrackerOf x t = (c.args.given.now.text.now, c.requires.given, c.requires.tracker) in
    let s : Setting = record {
      stock = stock_of ground.supply;
      suites = c.as_str.result.now ∷ [];
      report = Some (report_by y);
    } in
    c.requires.turn r w
    (turn_over x a ground.rows s (g.F.DeskFile.found c.args.file.now)
    (g.R.Turns.left c.args.reader.now) (g.R.Turns.left r) (g.W.Write.contents c.args.writer.now)
    (g.W.Write.contents w) (string_bytes ground.header) c.requires.ground.header
    (is_ground x a ground s c.requires.archive c.requires.ground refl
    (ap (λ (suite : List ℕ). suite ∷ []) c.as_str.ensures.value)
    (tracker_reports x a (contents_of y) t (tracking_of y) (level_of y) (depth_of y) (report_by y)
    c.in-Ok.ensures.archive c.in-Ok.ensures.tracking is c.in-Ok.ensures.made.leveled
    (λ rows. refl)))
    turn)

pub returns-in-Ok-clause-ends : goal.returns-in-Ok-clause-ends
returns-in-Ok-clause-ends g c =
    let x = texts_of c.args.self.now.texts.now in
    let a = c.args.archive.now in
    let ground = c.args.ground in
    let y = c.in-Ok.transition in
    let t = tracking c.args.given.now.tracker in
    let is : IsTrackerOf x t = (c.args.given.now.text.now, c.requires.given, c.requires.tracker) in
    let s : Setting = record {
      stock = stock_of ground.supply;
      suites = c.as_str.result.now ∷ [];
      report = Some (report_by y);
    } in
    over_ground x a ground.rows s (g.F.DeskFile.found c.args.file.now)
    (option_map g.F.Opened.Device.known c.hold_found.result.file)
    (g.R.Turns.left c.args.reader.now) (g.R.Turns.left c.hold_found.new.reader)
    (g.W.Write.contents c.args.writer.now) (g.W.Write.contents c.hold_found.new.writer)
    (string_bytes ground.header) c.hold_found.result.end c.requires.ground.header
    (is_ground x a ground s c.requires.archive c.requires.ground refl
    (ap (λ (suite : List ℕ). suite ∷ []) c.as_str.ensures.value)
    (tracker_reports x a (contents_of y) t (tracking_of y) (level_of y) (depth_of y) (report_by y)
    c.in-Ok.ensures.archive c.in-Ok.ensures.tracking is c.in-Ok.ensures.made.leveled
    (λ rows. refl)))
    c.hold_found.ensures.ends
