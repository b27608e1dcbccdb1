-- What is put is what was seen.
use Rattle.std.proofs.Common.{rules}
use Rattle.std.proofs.lemmas.Result.{IfOk-weaker}
use Rattle.td_crew.proofs.Replied.{taken_out}
use Rattle.td_crew.proofs.line_answers.LineAnswers.shown.Goals as goal

pub returns-clause-ok : goal.returns-clause-ok
returns-clause-ok g c =
    IfOk-weaker c.put_shown.result _ _
    (λ refused put. taken_out _ c.args.seen.answer c.answer.result c.in_ok-shown.shown
    c.answer.ensures (search rules) put)
    c.put_shown.ensures
