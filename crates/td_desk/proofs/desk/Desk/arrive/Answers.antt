-- `Desk::arrive`: the clause `answer`.
use Rattle.std.proofs.Common.{ap}
use Rattle.td_book.specs.Arriving.{ArriveOutcome}
use Rattle.td_desk.proofs.CommandAnswers.{met, told_as}
use Rattle.td_desk.proofs.desk.Desk.arrive.Goals as goal

pub returns-clause-answer : goal.returns-clause-answer
returns-clause-answer g c =
    let old = c.deref_mut.result.now.book in
    let new = c.arrive-answer.new.self.book in (
      old,
      new,
      met g.N.Named.table g.N.Named.origin g.N.Named.opened c.args.clerk.now old _ _ _ _ _ _
          c.arrive-answer.ensures.of_desk (ap (λ l. l.book) c.deref_mut.ensures.value)
          c.lock_as-locked.ensures.whole c.clerk.invariant.0 c.clerk.invariant.2
          c.clerk.invariant.3 c.clerk.view_is,
      told_as (ArriveOutcome c.args.key.now old new) c.arrive-answer.result
          c.of-arrived.result.answer c.of-arrived.ensures.answer c.arrive-answer.ensures.answer,
    )
