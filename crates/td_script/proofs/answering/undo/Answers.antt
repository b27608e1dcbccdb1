-- `undo`: what it answers.
use Rattle.td_script.proofs.AnswerLaws.{Answers-undo, left_undo}
use Rattle.td_script.proofs.answering.undo.Goals as goal
use Rattle.std.proofs.lemmas.Result.{IfOk-weaker}

pub returns-clause-ok : goal.returns-clause-ok
returns-clause-ok c =
    IfOk-weaker c.put_undo.result _ _
    (λ refused put. Answers-undo _ c.args.n c.args.book.now c.undo.new.self _ _ _ refused
    c.requires.alone c.undo.ensures put)
    c.put_undo.ensures.ok

pub returns-clause-book : goal.returns-clause-book
returns-clause-book c =
    left_undo _ c.args.n c.args.book.now c.undo.new.self c.undo.result c.requires.alone
    c.undo.ensures
