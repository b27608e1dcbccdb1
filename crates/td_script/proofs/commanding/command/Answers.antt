-- `command`: what it answers.
use Rattle.td_wbread.specs.Views.{parts_of}
use Rattle.td_script.proofs.CommandLaws.{Answers-command, left_command}
use Rattle.td_script.proofs.commanding.command.Goals as goal
use Rattle.std.proofs.lemmas.Result.{IfOk-weaker}

pub returns-clause-ok : goal.returns-clause-ok
returns-clause-ok c =
    IfOk-weaker c.put_command.result _ _
    (λ refused put. Answers-command (parts_of c.args.command.now) c.args.book.now
    c.command-answer.new.self _ _ _ _ refused c.requires.alone c.journal.ensures
    c.command-answer.ensures put)
    c.put_command.ensures.ok

pub returns-clause-book : goal.returns-clause-book
returns-clause-book c =
    left_command (parts_of c.args.command.now) c.args.book.now c.command-answer.new.self
    c.command-answer.result c.requires.alone c.command-answer.ensures
