-- `Desk::sweep`: the clause `answer`.
use Rattle.std.proofs.Common.{ap}
use Rattle.td_book.specs.Arriving.{SweepOutcome}
use Rattle.td_desk.proofs.CommandAnswers.{met, told_as}
use Rattle.td_desk.proofs.desk.Desk.sweep.Goals as goal

pub returns-clause-answer : goal.returns-clause-answer
returns-clause-answer g c =
    let old = c.deref_mut.result.now.book in
    let new = c.sweep-answer.new.self.book in (
      old,
      new,
      met g.N.Named.table g.N.Named.origin g.N.Named.opened c.args.clerk.now old _ _ _ _ _ _
          c.sweep-answer.ensures.of_desk (ap (λ l. l.book) c.deref_mut.ensures.value)
          c.lock_as-locked.ensures.whole c.clerk.invariant.0 c.clerk.invariant.2
          c.clerk.invariant.3 c.clerk.view_is,
      told_as (SweepOutcome old new) c.sweep-answer.result c.of-swept.result.answer
          c.of-swept.ensures c.sweep-answer.ensures.answer,
    )
