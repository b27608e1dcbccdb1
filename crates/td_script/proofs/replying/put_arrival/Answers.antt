-- `put_arrival`: what it appends and answers.
use Rattle.std.specs.Prelude.{false}
use Rattle.td_script.proofs.AnswerLaws.{IsEntryPut-and, OnErr-and}
use Rattle.td_script.proofs.replying.put_arrival.Goals as goal

pub returns-in-Ok-clause-ok : goal.returns-in-Ok-clause-ok
returns-in-Ok-clause-ok c =
    rw c.in-Ok.is
    (IsEntryPut-and _ _ _ _ c.put_made.result c.and.result c.and.ensures c.put_made.ensures.ok)

pub returns-in-Ok-clause-err : goal.returns-in-Ok-clause-err
returns-in-Ok-clause-err c =
    OnErr-and _ _ false c.put_made.result c.and.result c.and.ensures c.put_made.ensures.err
