-- `read_table`: its clauses.
use Rattle.td_text.specs.Lines.{lines_of}
use Rattle.td_relation.specs.TableView.{table}
use Rattle.td_inputs.specs.declared.form_fault.FormFault.TheVariants as form
use Rattle.td_inputs.specs.Opened.{of_form}
use Rattle.td_inputs.specs.inner.Reading.{IsOnlyTable, StopsAtTable}
use Rattle.td_inputs.proofs.Handing.{handed_err, handed_ok}
use Rattle.td_inputs.proofs.OpeningLaws.{table_read, table_unread}
use Rattle.td_inputs.proofs.opening.read_table.Goals as goal

pub returns-clause-table : goal.returns-clause-table
returns-clause-table c =
    handed_ok (λ archs. archs) (λ e. of_form (form.Table e))
    (λ archs. IsOnlyTable (lines_of c.args.text.now) (table archs))
    c.read-read.result c.table_of.result (c.table_of.ensures.read, c.table_of.ensures.fault)
    (table_read c.args.text.now table c.read-read.result c.read-read.ensures.found
    c.read-read.ensures.only)

pub returns-clause-stops : goal.returns-clause-stops
returns-clause-stops c =
    handed_err (λ archs. archs) (λ e. of_form (form.Table e)) (StopsAtTable c.args.text.now)
    c.read-read.result c.table_of.result (c.table_of.ensures.read, c.table_of.ensures.fault)
    (table_unread c.args.text.now table c.read-read.result c.read-read.ensures.fault
    c.read-read.ensures.only)
