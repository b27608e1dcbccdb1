-- `Desk::undo`: the clause `answer`.
use Rattle.std.proofs.Common.{ap}
use Rattle.td_desk.specs.Calls.{UndoTold}
use Rattle.td_desk.proofs.CommandAnswers.{met, told_as}
use Rattle.td_desk.proofs.desk.Desk.undo.Goals as goal

pub returns-clause-answer : goal.returns-clause-answer
returns-clause-answer g c = (
  _,
  _,
  met g.N.Named.table g.N.Named.origin g.N.Named.opened c.args.clerk.now _ _ _ _ _ _ _
      c.undo-answer.ensures.of_desk (ap (λ l. l.book) c.deref_mut.ensures.value)
      c.lock_as-locked.ensures.whole c.clerk.invariant.0 c.clerk.invariant.2 c.clerk.invariant.3
      c.clerk.view_is,
  told_as (UndoTold c.args.n _ _) c.undo-answer.result c.of-undone.result.answer
      c.of-undone.ensures.answer c.undo-answer.ensures.answer,
)
