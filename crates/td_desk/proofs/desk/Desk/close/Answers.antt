-- `Desk::close`: the clauses `ok` and `err`.
use Rattle.std.proofs.Common.{rules, subst}
use Rattle.std.specs.Prelude.{IsPermutation}
use Rattle.td_desk.specs.Changes.{changes}
use Rattle.td_desk.specs.Clerks.{all_receipts}
use Rattle.td_desk.proofs.desk.Desk.close.Goals as goal

pub returns-then-are_changes-clause-ok : goal.returns-then-are_changes-clause-ok
returns-then-are_changes-clause-ok g c =
    let all = changes g.N.Named.opened c.into_inner-book.result.book in
    subst (λ cs. IsPermutation (all_receipts cs) all) c.audit.ensures.clerks
    (c.are_changes.ensures.0 c.if-are_changes.true)

pub returns-clause-err : goal.returns-clause-err
returns-clause-err g c = ((λ p. search rules), c.audit.ensures.clerks)
