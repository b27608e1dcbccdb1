-- `serve_line`: the line isn't answered, or its answer is written, in whole or in part.
use Rattle.std.proofs.Common.{◌∙◌, ℕ, List, Bool, Result, Err, sym, ap, subst, string_bytes}
use Rattle.std.specs.Io.KnownBytes.{Appends}
use Rattle.std.proofs.lemmas.Result.{err_from_is_err_and}
use Rattle.td_bytes.specs.Pieces.{AppendsPrefix}
use Rattle.td_lasting.specs.declared.serving.ServeFault.{ServeFault}
use Rattle.td_lasting.specs.Terms.{setting_of}
use Rattle.td_lasting.specs.inner.Served.{IsServedLine}
use Rattle.td_lasting.proofs.ServedLines.{line_told, line_unanswered, line_untold}
use Rattle.td_lasting.proofs.serving.serve_line.Goals as goal

pub returns-in_err-is_refused-clause-served : goal.returns-in_err-is_refused-clause-served
returns-in_err-is_refused-clause-served g c =
    let v = c.args.desk.now in
    let s = setting_of v.stock c.args.terms.now in
    let framed = c.args.framed.now in
    let before = g.W.Write.contents c.args.writer.now in
    let p = err_from_is_err_and c.from_residual.result c.from_residual.ensures.1 in
    subst (λ (r : Result Bool ServeFault).
    IsServedLine s framed v c.answer_framed.new.self before before r)
    (sym (p.1 ∙ ap (λ (f : ServeFault). Err f) p.2))
    (line_unanswered s framed v c.answer_framed.new.self before c.in_err-is_refused.field-0.0
    c.in_err-is_refused.ensures.done c.requires.running)

pub returns-in-Ok-clause-served : goal.returns-in-Ok-clause-served
returns-in-Ok-clause-served g c =
    let v = c.args.desk.now in
    let before = g.W.Write.contents c.args.writer.now in
    let now = g.W.Write.contents c.write_whole.new.writer in
    line_told (setting_of v.stock c.args.terms.now) c.args.framed.now v c.answer_framed.new.self
    before now (string_bytes c.new-text.result) (string_bytes c.answer_framed.new.out)
    c.in_ok-is_refused.is_refused c.new-text.ensures.bytes c.in_ok-is_refused.ensures.replied
    c.in_ok-is_refused.ensures.done c.requires.running
    (subst (λ (l : List ℕ). Appends before now l) c.as_bytes.ensures.value c.in-Ok.ensures.whole)

pub returns-clause-served : goal.returns-clause-served
returns-clause-served g c =
    let v = c.args.desk.now in
    let before = g.W.Write.contents c.args.writer.now in
    let now = g.W.Write.contents c.write_whole.new.writer in
    line_untold (setting_of v.stock c.args.terms.now) c.args.framed.now v c.answer_framed.new.self
    before now (string_bytes c.new-text.result) (string_bytes c.answer_framed.new.out)
    c.in_ok-is_refused.is_refused c.new-text.ensures.bytes c.in_ok-is_refused.ensures.replied
    c.in_ok-is_refused.ensures.done c.requires.running
    (subst (λ (l : List ℕ). AppendsPrefix before now l) c.as_bytes.ensures.value
    c.in-Err.ensures.prefix)
