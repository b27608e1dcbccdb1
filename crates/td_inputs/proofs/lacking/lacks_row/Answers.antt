-- `lacks_row`: what it answers.
use Rattle.td_rows.specs.RowText.{row_of_text}
use Rattle.td_inputs.proofs.LackingRows.{found_lacks, unread_lacks}
use Rattle.td_inputs.proofs.lacking.lacks_row.Goals as goal

pub returns-in-Some : goal.returns-in-Some
returns-in-Some c =
    found_lacks c.args.rows.now c.args.line.now (row_of_text c.in-Some.row) c.number_of.result
    c.is_none.result c.in-Some.ensures c.number_of.ensures.found c.number_of.ensures.absent
    c.is_none.ensures

pub returns-in-None : goal.returns-in-None
returns-in-None c = (
  λ e. absurd cc,
  λ lacks. absurd (unread_lacks c.args.rows.now c.args.line.now c.in-None.ensures lacks),
)
