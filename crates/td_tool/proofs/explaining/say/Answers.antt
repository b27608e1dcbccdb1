-- `say`: its clauses.
use Rattle.std.proofs.Common.{◌≡◌, OnOk, option_map, rules, string_bytes, subst, sym, true}
use Rattle.td_tool.specs.Explained.{FailsOf, SaysAll, SaysOf, known_of_request}
use Rattle.td_tool.specs.Tracks.{file_at}
use Rattle.td_tool.proofs.Explanations.{line_alone, said_front, said_not, said_whole}
use Rattle.td_tool.proofs.explaining.say.Goals as goal

pub returns-in_default-clause-front : goal.returns-in_default-clause-front
returns-in_default-clause-front g c = λ known kept.
    line_alone c.args.explained
    (known_of_request c.args.request.now known (g.T.Texts.bytes c.args.texts.now))
    (option_map string_bytes c.args.ended.now.notes) c.args.ended.now.ending _ _
    c.in_default.ensures.prefix

pub returns-clause-whole : goal.returns-clause-whole
returns-clause-whole g c = λ known kept.
    let asked : c.args.explained ≡ true = search rules in
    let texts = known_of_request c.args.request.now known (g.T.Texts.bytes c.args.texts.now) in
    let before = g.E.Write.contents c.args.faults.now in
    let said = g.E.Write.contents c.put_explanation.new.faults in
    subst (λ b. OnOk c.put_explanation.result
    (SaysAll b texts (g.T.Texts.can_be c.args.texts.now) (g.T.Texts.can_pack c.args.texts.now)
    c.args.ended.now c.args.request.now before said)) (sym asked)
    (said_whole texts c.args.ended.now c.args.request.now (g.T.Texts.can_be c.args.texts.now)
    (g.T.Texts.can_pack c.args.texts.now) before _ said c.explanation.result
    c.put_explanation.result c.in-Ok.ensures.whole (c.explanation.ensures.line known kept)
    c.explanation.ensures.own c.explanation.ensures.none c.put_explanation.ensures.line
    c.put_explanation.ensures.none)

pub returns-clause-front : goal.returns-clause-front
returns-clause-front g c = λ known kept.
    let asked : c.args.explained ≡ true = search rules in
    let texts = known_of_request c.args.request.now known (g.T.Texts.bytes c.args.texts.now) in
    let before = g.E.Write.contents c.args.faults.now in
    let said = g.E.Write.contents c.put_explanation.new.faults in
    subst (λ b. SaysOf b texts (option_map string_bytes c.args.ended.now.notes)
    c.args.ended.now.ending before said) (sym asked)
    (said_front texts c.args.ended.now c.args.request.now (g.T.Texts.can_be c.args.texts.now)
    (g.T.Texts.can_pack c.args.texts.now) before _ said c.explanation.result
    c.put_explanation.result c.in-Ok.ensures.whole (c.explanation.ensures.line known kept)
    c.put_explanation.ensures.line c.put_explanation.ensures.none)

pub returns-clause-failed : goal.returns-clause-failed
returns-clause-failed g c =
    said_not
    (FailsOf (file_at (g.T.Texts.bytes c.args.texts.now) (g.T.Texts.can_fail c.args.texts.now))
    c.args.request.now c.args.ended.now.ending) _ _
    c.explanation.result c.put_explanation.result c.explanation.ensures.failed
    c.put_explanation.ensures.line c.put_explanation.ensures.none
