-- `play_text`: how the script ends, by its bytes.
use Rattle.std.proofs.Common.{Some, subst}
use Rattle.td_tool.specs.RunInside.{PlaysInputs}
use Rattle.td_tool.proofs.noting.play_text.Goals as goal

pub returns-clause-plays : goal.returns-clause-plays
returns-clause-plays g c =
    let old = g.W.Write.contents c.args.output.now in
    let new = g.W.Write.contents c.play_alone-ending.new.output in
    subst (λ t. PlaysInputs 0 c.args.inputs.now (Some t) old new c.play_alone-ending.result)
    c.as_bytes-reader.ensures.value c.play_alone-ending.ensures.plays
