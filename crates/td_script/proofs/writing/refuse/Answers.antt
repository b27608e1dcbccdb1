-- `refuse`: what it appends and answers.
use Rattle.std.specs.Prelude.{true}
use Rattle.td_script.proofs.AnswerLaws.{IsPut-and, OnErr-and}
use Rattle.td_script.proofs.writing.refuse.Goals as goal

pub returns-clause-ok : goal.returns-clause-ok
returns-clause-ok c =
    IsPut-and _ _ _ true c.put_refusal.result c.and.result c.and.ensures c.put_refusal.ensures.ok

pub returns-clause-err : goal.returns-clause-err
returns-clause-err c =
    OnErr-and _ _ true c.put_refusal.result c.and.result c.and.ensures c.put_refusal.ensures.err
