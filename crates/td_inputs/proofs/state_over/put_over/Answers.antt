-- `put_over`: the clause `put`, and the call of `first_lacking`.
use Rattle.std.proofs.Common.{Result, Ok, Err, IfOk, refl, sym, subst}
use Rattle.td_text.specs.Lines.{lines_of}
use Rattle.td_rows.specs.StateFile.{IsStateFile}
use Rattle.td_rows.specs.Table.{Table}
use Rattle.td_rows.specs.declared.state_file.StateFault.{StateFault}
use Rattle.td_inputs.specs.Lacking.{IsFirstLacking}
use Rattle.td_inputs.specs.inner.StateOver.{IsPutOver, LacksPlace}
use Rattle.td_inputs.specs.declared.form_fault.FormFault.TheVariants.{NoSuchRow}
use Rattle.td_inputs.specs.declared.open_fault.OpenFault.TheVariants.{Refused}
use Rattle.td_inputs.proofs.StateLaws.{missing_key}
use Rattle.td_inputs.proofs.state_over.put_over.Goals as goal

pub returns-in-Ok-overlay-clause-put : goal.returns-in-Ok-overlay-clause-put
returns-in-Ok-overlay-clause-put c =
    subst (λ (q : Result Table StateFault). IfOk q (λ given.
    IsPutOver c.args.rows c.args.text.now given (Ok c.overlay.new.self))) (sym c.in-Ok.is) (
      c.in-Ok-overlay.ensures.ok,
      λ k e. let other = (c.overlay.ensures.missing k).1 e in let is = c.in-Ok-overlay.is in cc,
    )

pub first_lacking-number-requires : goal.first_lacking-number-requires
first_lacking-number-requires c =
    subst (λ (t : Table). LacksPlace t c.args.text.now) (sym c.in-Err-overlay.ensures.err) (
      c.in-Ok.given,
      subst (λ (q : Result Table StateFault).
          IfOk q (IsStateFile (lines_of c.args.text.now))) c.in-Ok.is c.requires,
      missing_key c.args.rows c.in-Ok.given c.overlay.result c.in-Err-overlay.field-0
          c.in-Err-overlay.is c.overlay.ensures.missing,
    )

pub returns-in-Err-overlay-clause-put : goal.returns-in-Err-overlay-clause-put
returns-in-Err-overlay-clause-put c =
    let first = subst (λ (t : Table).
    IsFirstLacking t (lines_of c.args.text.now) c.first_lacking-number.result)
    c.in-Err-overlay.ensures.err c.first_lacking-number.ensures in
    subst (λ (q : Result Table StateFault). IfOk q (λ given.
    IsPutOver c.args.rows c.args.text.now given
    (Err (Refused (NoSuchRow c.first_lacking-number.result))))) (sym c.in-Ok.is) (
      c.first_lacking-number.result,
      refl,
      first,
      missing_key c.args.rows c.in-Ok.given c.overlay.result c.in-Err-overlay.field-0
          c.in-Err-overlay.is c.overlay.ensures.missing,
    )
