-- `tell`: its clauses.
use Rattle.std.proofs.Common.{◌∙◌, IfOk, sym, subst}
use Rattle.td_tool.specs.TrackInside.{TellsTexts, saying_of, texts_of}
use Rattle.td_tool.proofs.Dues.{file_unwritten, texts_unwritten}
use Rattle.td_tool.proofs.Sure.{tells_texts}
use Rattle.td_tool.proofs.tracking.tell.Goals as goal

pub returns-clause-texts : goal.returns-clause-texts
returns-clause-texts g c =
    let old = g.W.Write.contents c.args.output.now in
    let new = g.W.Write.contents c.write.new.output in
    subst (λ r. IfOk r (λ x.
    TellsTexts (saying_of c.args.asked) (texts_of x) old new c.write.result))
    (sym c.in-Ok.is)
    (tells_texts (saying_of c.args.asked) (texts_of c.in-Ok.read) c.texts_say.result old new
    c.write.result c.texts_say.ensures c.write.ensures.line c.write.ensures.refused)

pub returns-in-Err-clause-due : goal.returns-in-Err-clause-due
returns-in-Err-clause-due g c = λ is.
    absurd (file_unwritten c.in-Err.unread.role c.in-Err.unread.fault
    (sym c.ending_of_file.ensures ∙ is))

pub returns-clause-due : goal.returns-clause-due
returns-clause-due g c =
    c.write.ensures.due
    (texts_unwritten (texts_of c.in-Ok.read) c.texts_say.result c.texts_say.ensures.refused)
