-- `opening_rows_are_by_what_was_built`: what it answers.
use Rattle.td_indices.proofs.OpeningNumbers.{opening_rows_are_exact}
use Rattle.td_indices.proofs.laws.opening_rows_are_by_what_was_built.Goals as goal

pub returns : goal.returns
returns c = opening_rows_are_exact
