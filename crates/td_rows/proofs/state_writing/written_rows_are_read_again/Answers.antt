-- `written_rows_are_read_again`: what it answers.
use Rattle.td_rows.proofs.Writing.{read_again}
use Rattle.td_rows.proofs.state_writing.written_rows_are_read_again.Goals as goal

pub returns : goal.returns
returns c = read_again
