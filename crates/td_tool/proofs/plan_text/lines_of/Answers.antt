-- `lines_of`: what it answers.
use Rattle.std.proofs.lemmas.Result.{IfOk-weaker}
use Rattle.td_tool.proofs.plan_text.lines_of.Goals as goal

pub returns : goal.returns
returns g c =
    IfOk-weaker c.text.result _ _
    (λ said is p for planned title.
    is p (c.in_ok-plan.ensures p for planned.sound planned.apart) title)
    c.text.ensures
