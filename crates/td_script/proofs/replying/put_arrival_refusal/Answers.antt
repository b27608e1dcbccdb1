-- `put_arrival_refusal`: what it appends and answers.
use Rattle.std.specs.Prelude.{true}
use Rattle.td_script.proofs.AnswerLaws.{IsPut-and, OnErr-and}
use Rattle.td_script.proofs.replying.put_arrival_refusal.Goals as goal

pub returns-in-NoSuchRow-clause-ok : goal.returns-in-NoSuchRow-clause-ok
returns-in-NoSuchRow-clause-ok c = rw c.in-NoSuchRow.is c.refuse.ensures.ok

pub returns-in-DoesNotApply-clause-ok : goal.returns-in-DoesNotApply-clause-ok
returns-in-DoesNotApply-clause-ok c =
    rw c.in-DoesNotApply.is
    (IsPut-and _ _ _ true c.put_state_refusal.result c.and.result c.and.ensures
    c.put_state_refusal.ensures.ok)

pub returns-in-DoesNotApply-clause-err : goal.returns-in-DoesNotApply-clause-err
returns-in-DoesNotApply-clause-err c =
    OnErr-and _ _ true c.put_state_refusal.result c.and.result c.and.ensures
    c.put_state_refusal.ensures.err
