-- `run_with`: its clauses.
use Rattle.std.proofs.Common.{◌≡◌, ◌∙◌, Err, ap, refl, rules, subst, sym}
use Rattle.std.specs.Io.KnownBytes.{Appends}
use Rattle.td_bytes.specs.Pieces.{AppendsPrefix}
use Rattle.td_script.specs.declared.running.RunFault.{RunFault}
use Rattle.td_script.specs.declared.running.RunFault.TheVariants.{Read, Write}
use Rattle.td_script.specs.Openings.{texts_of}
use Rattle.td_script.specs.Ends.{Only, SaysBy}
use Rattle.td_script.proofs.OnlyLaws.{run_only}
use Rattle.td_script.proofs.RunLaws.{plays, stopped}
use Rattle.td_script.proofs.StreamLaws.{never_unwritten, unread_due}
use Rattle.td_script.proofs.running.run_with.Goals as goal

pub returns-in-Ok-clause-says : goal.returns-in-Ok-clause-says
returns-in-Ok-clause-says g c =
    plays (g.S.Staff.tells c.args.staff.now) (texts_of c.args.inputs.now)
    (g.R.Read.remaining c.args.reader.now) c.read_text-read.result c.tell_read.result
    c.in_ok-told.told
    (λ text refused. (c.in_ok-told.told.refused ≡ refused)
    × Appends (g.W.Write.contents c.args.writer.now) (g.W.Write.contents c.write_whole.new.writer)
    text)
    c.in_ok-told.was c.read_text-read.ensures.text c.read_text-read.ensures.within
    c.tell_read.ensures.read c.tell_read.ensures.unread (
      refl,
      subst (λ l. Appends (g.W.Write.contents c.args.writer.now)
          (g.W.Write.contents c.write_whole.new.writer) l) c.as_bytes.ensures.value
          c.in-Ok.ensures.whole,
    )

pub returns-clause-says : goal.returns-clause-says
returns-clause-says g c =
    plays (g.S.Staff.tells c.args.staff.now) (texts_of c.args.inputs.now)
    (g.R.Read.remaining c.args.reader.now) c.read_text-read.result c.tell_read.result
    c.in_ok-told.told
    (λ text refused. AppendsPrefix (g.W.Write.contents c.args.writer.now)
    (g.W.Write.contents c.write_whole.new.writer) text)
    c.in_ok-told.was c.read_text-read.ensures.text c.read_text-read.ensures.within
    c.tell_read.ensures.read c.tell_read.ensures.unread
    (subst (λ l. AppendsPrefix (g.W.Write.contents c.args.writer.now)
    (g.W.Write.contents c.write_whole.new.writer) l) c.as_bytes.ensures.value
    c.in-Err.ensures.prefix)

pub returns-in_err-told-clause-only : goal.returns-in_err-told-clause-only
returns-in_err-told-clause-only g c =
    let x = texts_of c.args.inputs.now in
    let known = g.R.Read.remaining c.args.reader.now in
    let same : c.from_residual.result ≡ Err c.in_err-told.field-0.0 = search rules in
    subst (Only x known) (sym same)
    (run_only x known c.read_text-read.result c.tell_read.result c.in_err-told.field-0.0
    c.in_err-told.was c.tell_read.ensures.only c.tell_read.ensures.unread_only
    c.read_text-read.ensures.long c.read_text-read.ensures.not_text)

pub returns-in_err-told-clause-says : goal.returns-in_err-told-clause-says
returns-in_err-told-clause-says g c =
    let May = g.S.Staff.tells c.args.staff.now in
    let x = texts_of c.args.inputs.now in
    let known = g.R.Read.remaining c.args.reader.now in
    let old = g.W.Write.contents c.args.writer.now in
    let same : c.from_residual.result ≡ Err c.in_err-told.field-0.0 = search rules in
    subst (SaysBy May x known old old) (sym same)
    (stopped May x known old c.read_text-read.result c.tell_read.result c.in_err-told.field-0.0
    c.in_err-told.was c.tell_read.ensures.read c.tell_read.ensures.unread
    c.read_text-read.ensures.long c.read_text-read.ensures.not_text)

pub returns-in_err-told-clause-unread : goal.returns-in_err-told-clause-unread
returns-in_err-told-clause-unread g c = λ is.
    let same : c.from_residual.result ≡ Err c.in_err-told.field-0.0 = search rules in
    let failed : c.in_err-told.field-0.0 ≡ Read = cc in
    unread_due (g.S.Staff.tells c.args.staff.now) (texts_of c.args.inputs.now)
    c.read_text-read.result c.tell_read.result (g.R.Reader.can_fail c.args.reader.now)
    c.tell_read.ensures.read c.tell_read.ensures.unread c.read_text-read.ensures.due
    (c.in_err-told.was ∙ ap (λ (e : RunFault). Err e) failed)

pub returns-in_err-told-clause-unwritten : goal.returns-in_err-told-clause-unwritten
returns-in_err-told-clause-unwritten g c = λ is.
    let same : c.from_residual.result ≡ Err c.in_err-told.field-0.0 = search rules in
    let failed : c.in_err-told.field-0.0 ≡ Write = cc in
    absurd (never_unwritten (g.S.Staff.tells c.args.staff.now) (texts_of c.args.inputs.now)
    c.read_text-read.result c.tell_read.result
    c.tell_read.ensures.read c.tell_read.ensures.unread
    (c.in_err-told.was ∙ ap (λ (e : RunFault). Err e) failed))
