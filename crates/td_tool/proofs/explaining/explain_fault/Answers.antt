-- `explain_fault`: the clause `line` if a text isn't UTF-8.
use Rattle.std.proofs.Common.{IfOk, IfSome, string_bytes, sym, subst}
use Rattle.td_tool.specs.Explained.{ExplainsFault, ExplainsNoText, known_of_request}
use Rattle.td_tool.proofs.Explanations.{told_some}
use Rattle.td_tool.proofs.explaining.explain_fault.Goals as goal

pub returns-in-NotText-clause-line : goal.returns-in-NotText-clause-line
returns-in-NotText-clause-line g c = λ known kept.
    let given =
    known_of_request c.args.request.now known (g.T.Texts.bytes c.args.texts.now) c.args.role in
    subst (λ fault. IfOk c.some_line.result (λ told. IfSome told (λ line.
    ExplainsFault given c.args.role fault (string_bytes line)))) (sym c.in-NotText.is)
    (told_some (λ line. ExplainsNoText given c.args.role line) c.explain_no_text.result
    c.some_line.result c.some_line.ensures.ok c.some_line.ensures.err
    (c.explain_no_text.ensures.line known))
