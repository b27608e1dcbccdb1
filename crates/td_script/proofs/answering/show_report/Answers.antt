-- `show_report`: what it answers.
use Rattle.std.specs.Prelude.{codes}
use Rattle.std.proofs.lemmas.Result.{IfOk-weaker}
use Rattle.td_script.proofs.AnswerLaws.{Answers-refuse, Answers-said}
use Rattle.td_script.proofs.answering.show_report.Goals as goal

pub returns-in-Some-clause-ok : goal.returns-in-Some-clause-ok
returns-in-Some-clause-ok g c =
    rw c.in-Some.is
    (IfOk-weaker c.put_report.result _ _ (Answers-said _ c.args.book.now _ _)
    c.put_report.ensures.ok)

pub returns-in-None-clause-ok : goal.returns-in-None-clause-ok
returns-in-None-clause-ok g c =
    rw c.in-None.is
    (Answers-refuse (codes "NoTracker") c.args.book.now _ _ c.refuse.result c.refuse.ensures.ok)
