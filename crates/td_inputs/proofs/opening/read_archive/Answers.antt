-- `read_archive`: its clauses.
use Rattle.td_relation.specs.TableView.{table}
use Rattle.td_inputs.specs.declared.form_fault.FormFault.TheVariants as form
use Rattle.td_inputs.specs.Opened.{of_form}
use Rattle.td_inputs.specs.inner.Reading.{IsArchiveAt, StopsAtIndices}
use Rattle.td_inputs.proofs.Handing.{handed_err, handed_ok}
use Rattle.td_inputs.proofs.OpeningLaws.{archive_read, archive_unread}
use Rattle.td_inputs.proofs.opening.read_archive.Goals as goal

pub returns-clause-archive : goal.returns-clause-archive
returns-clause-archive g c =
    let t = table c.args.archs.now in
    handed_ok (λ archive. archive) (λ e. of_form (form.Archive e))
    (IsArchiveAt t c.args.packages c.args.sources) c.of_texts-read.result c.archive_of.result
    (c.archive_of.ensures.read, c.archive_of.ensures.fault)
    (archive_read t c.args.packages c.args.sources c.of_texts-read.result
    c.of_texts-read.ensures)

pub returns-clause-stops : goal.returns-clause-stops
returns-clause-stops g c =
    let t = table c.args.archs.now in
    handed_err (λ archive. archive) (λ e. of_form (form.Archive e))
    (StopsAtIndices t c.args.packages c.args.sources) c.of_texts-read.result c.archive_of.result
    (c.archive_of.ensures.read, c.archive_of.ensures.fault)
    (archive_unread t c.args.packages c.args.sources c.of_texts-read.result
    c.of_texts-read.ensures)
