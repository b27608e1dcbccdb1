-- `count`: how it ends, and that a write fails only if there is a text to write.
use Rattle.std.proofs.Common.{◌∙◌, IfOk, string_bytes, subst, sym}
use Rattle.td_tool.specs.CheckInside.{FileTextsEnd}
use Rattle.td_tool.specs.Counted.{check_text}
use Rattle.td_tool.proofs.Counting.{ends_counted}
use Rattle.td_tool.proofs.Dues.{file_unwritten, text_uncounted}
use Rattle.td_tool.proofs.checking.count.Goals as goal

pub returns-in-Err-clause-due : goal.returns-in-Err-clause-due
returns-in-Err-clause-due g c = λ is.
    absurd (file_unwritten c.in-Err.unread.role c.in-Err.unread.fault
    (sym c.ending_of_file.ensures ∙ is))

pub returns-clause-texts : goal.returns-clause-texts
returns-clause-texts g c =
    let t = c.in-Ok.read in
    let old = g.W.Write.contents c.args.output.now in
    let new = g.W.Write.contents c.write.new.output in
    subst (λ r. IfOk r (λ x. FileTextsEnd c.args.details x old new c.write.result))
    (sym c.in-Ok.is)
    (ends_counted (check_text c.args.details t.cut) (string_bytes t.archs) t.packages t.sources
    c.texts_tell.result old new c.write.result c.texts_tell.ensures
    c.write.ensures.line c.write.ensures.refused)

pub returns-clause-due : goal.returns-clause-due
returns-clause-due g c =
    c.write.ensures.due (text_uncounted _ _ _ _ c.texts_tell.result c.texts_tell.ensures)
