-- `FileDesk::claim`: a row that may not be taken.
use Rattle.std.proofs.Common.{Bool, None, Result, sym, subst}
use Rattle.std.specs.String.{string_bytes}
use Rattle.std.proofs.lemmas.Result.{err_from_is_err_and}
use Rattle.td_rows.specs.Table.{row_of}
use Rattle.td_rows.proofs.Appends.{grown_by_nothing}
use Rattle.td_core.specs.History.{rows_of}
use Rattle.td_lasting.specs.declared.chronicle.DeskFault.{DeskFault}
use Rattle.td_lasting.specs.DeskAnswers.{claims}
use Rattle.td_lasting.specs.DeskView.{IsAtRest}
use Rattle.td_lasting.specs.inner.Answered.{IsAnswered}
use Rattle.td_lasting.proofs.AnswerLaws.{lacking}
use Rattle.td_lasting.proofs.BuildLaws.{claim_stopped}
use Rattle.td_lasting.proofs.desk.FileDesk.claim.Goals as goal

pub returns-in_err-put_claim_refusal-in-Err : goal.returns-in_err-put_claim_refusal-in-Err
returns-in_err-put_claim_refusal-in-Err g c = λ s same.
    let v = c.args.self.now in
    let b = c.args.builder in
    let k = c.args.key.now in
    let before = string_bytes c.args.out.now in
    let now = string_bytes c.put_claim_refusal.new.out in
    let reply = claims s v.history b k (row_of (rows_of v.history) k) in
    let p = err_from_is_err_and c.from_residual.result c.from_residual.ensures.1 in
    subst (λ (r : Result Bool DeskFault). IsAnswered reply None v v before now r) (sym p.1)
    (lacking reply None v before now p.0 p.2
    (subst IsAtRest c.self.view_is c.self.invariant.rest)
    (grown_by_nothing before now c.in_err-put_claim_refusal-in-Err.ensures.err))

pub returns-in_ok-put_claim_refusal-in-Err : goal.returns-in_ok-put_claim_refusal-in-Err
returns-in_ok-put_claim_refusal-in-Err g c = λ s same.
    claim_stopped s c.args.self.now c.args.builder c.args.key.now c.in-Err.refusal
    (string_bytes c.args.out.now) (string_bytes c.put_claim_refusal.new.out)
    c.in_ok-put_claim_refusal-in-Err.field-0 (subst IsAtRest c.self.view_is c.self.invariant.rest)
    c.requires.running c.in-Err.ensures.err c.in_ok-put_claim_refusal-in-Err.ensures.ok
