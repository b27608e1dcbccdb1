-- `why_no_ground`: the clause `refused`.
use Rattle.std.proofs.Common.{IfErr, subst, sym}
use Rattle.td_inputs.specs.Inputs.{Texts}
use Rattle.td_inputs.specs.Opened.{IsUnopened}
use Rattle.td_session.specs.Grounds.{texts_of}
use Rattle.td_session.specs.inner.Judging.{IsRefusalOf}
use Rattle.td_session.proofs.Refusals.{refusal}
use Rattle.td_session.proofs.judging.why_no_ground.Goals as goal

pub returns-clause-refused : goal.returns-clause-refused
returns-clause-refused g c =
    let x = texts_of c.args.texts.now in
    subst (IsRefusalOf x) (sym c.fault_of.ensures)
    (refusal x c.open_texts-opened.result
    (subst (λ (y : Texts). IfErr c.open_texts-opened.result (IsUnopened y)) c.lent-read.ensures
    c.open_texts-opened.ensures.refused))
