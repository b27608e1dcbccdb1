-- `Session::hold_over`: how a session ends that has no tracker.
use Rattle.std.proofs.Common.{◌∙◌, ℕ, List, [], ◌∷◌, None, ap, option_map, refl, string_bytes, sym}
use Rattle.td_supply.specs.Supply.{stock_of}
use Rattle.td_script.specs.Replies.{Setting}
use Rattle.td_session.specs.Grounds.{texts_of}
use Rattle.td_session.proofs.Endings.{over_ground, turn_over}
use Rattle.td_session.proofs.Grounds.{is_ground, no_reports}
use Rattle.td_session.proofs.session.Session.hold_over.Goals as goal

pub hold_found-requires-clause-turn : goal.hold_found-requires-clause-turn
hold_found-requires-clause-turn g c = λ r w turn.
    let x = texts_of c.args.self.now.texts.now in
    let a = c.args.archive.now in
    let ground = c.in-Some.ground in
    let s : Setting = record {
      stock = stock_of ground.supply;
      suites = c.as_str-suite.result.now ∷ [];
      report = None;
    } in
    c.requires.turn r w
    (turn_over x a ground.rows s (g.F.DeskFile.found c.args.file.now)
    (g.R.Turns.left c.args.reader.now) (g.R.Turns.left r) (g.W.Write.contents c.args.writer.now)
    (g.W.Write.contents w) (string_bytes ground.header) c.in-Some.ensures.header
    (is_ground x a ground s c.requires.archive c.in-Some.ensures refl
    (ap (λ (suite : List ℕ). suite ∷ []) c.as_str-suite.ensures.value)
    (no_reports a x.tracker (sym c.given_text.ensures
    ∙ ap (option_map (λ s. s.now)) c.in_default-given_text.is)))
    turn)

pub returns-in_default-given_text-clause-ends : goal.returns-in_default-given_text-clause-ends
returns-in_default-given_text-clause-ends g c =
    let x = texts_of c.args.self.now.texts.now in
    let a = c.args.archive.now in
    let ground = c.in-Some.ground in
    let s : Setting = record {
      stock = stock_of ground.supply;
      suites = c.as_str-suite.result.now ∷ [];
      report = None;
    } in
    over_ground x a ground.rows s (g.F.DeskFile.found c.args.file.now)
    (option_map g.F.Opened.Device.known c.hold_found.result.file)
    (g.R.Turns.left c.args.reader.now) (g.R.Turns.left c.hold_found.new.reader)
    (g.W.Write.contents c.args.writer.now) (g.W.Write.contents c.hold_found.new.writer)
    (string_bytes ground.header) c.hold_found.result.end c.in-Some.ensures.header
    (is_ground x a ground s c.requires.archive c.in-Some.ensures refl
    (ap (λ (suite : List ℕ). suite ∷ []) c.as_str-suite.ensures.value)
    (no_reports a x.tracker (sym c.given_text.ensures
    ∙ ap (option_map (λ s. s.now)) c.in_default-given_text.is)))
    c.hold_found.ensures.ends
