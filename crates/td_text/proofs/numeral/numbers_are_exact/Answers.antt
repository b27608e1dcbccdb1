-- `numbers_are_exact`: the clauses `numbers` and `signed`.
use Rattle.td_text.proofs.Numbers.{number_exact}
use Rattle.td_text.proofs.SignedNumbers.{signed_exact}
use Rattle.td_text.proofs.numeral.numbers_are_exact.Goals as goal

pub returns-clause-numbers : goal.returns-clause-numbers
returns-clause-numbers c = number_exact

pub returns-clause-signed : goal.returns-clause-signed
returns-clause-signed c = signed_exact
