-- `cells_take_kinds_back`: the clauses `taken_back`, `commutes`, `applies` and `its_own`.
use Rattle.td_rows.proofs.CellLaws.{restore-means, Disjoint-written, means-restore, applies-restore}
use Rattle.td_rows.proofs.laws.cells_take_kinds_back.Goals as goal

pub returns-clause-taken_back : goal.returns-clause-taken_back
returns-clause-taken_back c = restore-means

pub returns-clause-commutes : goal.returns-clause-commutes
returns-clause-commutes c = means-restore

pub returns-clause-applies : goal.returns-clause-applies
returns-clause-applies c = applies-restore

pub returns-clause-its_own : goal.returns-clause-its_own
returns-clause-its_own c = Disjoint-written
