-- `explanation`: the clause `line` if a file isn't read.
use Rattle.std.proofs.Common.{IfOk, IfSome, option_map, string_bytes, sym, subst}
use Rattle.td_tool.specs.Explained.{Explains, known_of_request}
use Rattle.td_tool.proofs.Explanations.{own_cause_explains}
use Rattle.td_tool.proofs.explaining.explanation.Goals as goal

pub returns-in-CannotRead-clause-line : goal.returns-in-CannotRead-clause-line
returns-in-CannotRead-clause-line g c = λ known kept.
    let bytes = g.T.Texts.bytes c.args.texts.now in
    let texts = known_of_request c.args.request.now known bytes in
    subst (λ ending. IfOk c.explain_unread.result (λ told. IfSome told (λ line.
    Explains texts (option_map string_bytes c.args.ended.now.notes) ending (string_bytes line))))
    (sym c.in-CannotRead.is)
    (own_cause_explains (g.T.Texts.can_be c.args.texts.now) c.args.request.now known bytes
    (option_map string_bytes c.args.ended.now.notes) c.in-CannotRead.role c.explain_unread.result
    c.explain_unread.ensures.line)
