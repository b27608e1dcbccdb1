-- `put_asked_entry`: what it appends and answers.
use Rattle.std.specs.Prelude.{false}
use Rattle.td_script.proofs.AnswerLaws.{IsPut-and, OnErr-and}
use Rattle.td_script.proofs.replying.put_asked_entry.Goals as goal

pub returns-in-Some-clause-ok : goal.returns-in-Some-clause-ok
returns-in-Some-clause-ok c =
    rw c.in-Some.is
    (IsPut-and _ _ _ false c.put_entry.result c.and.result c.and.ensures c.put_entry.ensures.ok)

pub returns-in-Some-clause-err : goal.returns-in-Some-clause-err
returns-in-Some-clause-err c =
    OnErr-and _ _ false c.put_entry.result c.and.result c.and.ensures c.put_entry.ensures.err

pub returns-in-None-clause-ok : goal.returns-in-None-clause-ok
returns-in-None-clause-ok c = rw c.in-None.is c.refuse.ensures.ok
