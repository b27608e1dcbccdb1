-- `play`: the clause `text`.
use Rattle.std.proofs.Common.{IfOk, string_bytes, sym, subst}
use Rattle.td_tool.specs.Played.{TextEnds}
use Rattle.td_tool.proofs.Plays.{text_ends}
use Rattle.td_tool.proofs.simulation.play.Goals as goal

pub returns-clause-text : goal.returns-clause-text
returns-clause-text g c =
    let old = g.W.Write.contents c.args.output.now in
    let new = g.W.Write.contents c.tell-ending.new.output in
    let ends = text_ends c.as_str.result.now old new c.simulate_text.result c.tell-ending.result
    c.simulate_text.ensures.found c.simulate_text.ensures.only c.simulate_text.ensures.fault
    c.tell-ending.ensures.told c.tell-ending.ensures.untold in
    subst (λ r. IfOk r (λ text. TextEnds (string_bytes text) old new c.tell-ending.result))
    (sym c.in-Ok.is)
    (subst (λ t. TextEnds t old new c.tell-ending.result) c.as_str.ensures.value ends)
