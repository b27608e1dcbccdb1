-- `Desk::command`: the clause `answer`, and what `Commanded::of` requires.
use Rattle.std.proofs.Common.{◌≡◌, ◌∙◌, ap, rules, sym}
use Rattle.td_wbread.specs.Views.{parts_of}
use Rattle.td_desk.specs.Calls.{IsMetBy}
use Rattle.td_desk.proofs.CommandAnswers.{commanded, done_as, met}
use Rattle.td_desk.proofs.desk.Desk.command.Goals as goal

pub returns-clause-answer : goal.returns-clause-answer
returns-clause-answer g c =
    commanded _ (IsMetBy g.N.Named.table g.N.Named.origin g.N.Named.opened
    c.args.clerk.now.parts c.args.clerk.now.receipts) _ _ _ _ _ _
    c.of-commanded.ensures.answer
    (met g.N.Named.table g.N.Named.origin g.N.Named.opened c.args.clerk.now _ _ _ _ _ _ _
    c.command-answer.ensures.of_desk (ap (λ l. l.book) c.deref_mut.ensures.value)
    c.lock_as-locked.ensures.whole c.clerk.invariant.0 c.clerk.invariant.2 c.clerk.invariant.3
    c.clerk.view_is)
    c.command-answer.ensures.answer (search rules)

pub of-commanded-requires-clause-answer : goal.of-commanded-requires-clause-answer
of-commanded-requires-clause-answer g c =
    let old = c.deref_mut.result.now.book in
    let new = c.command-answer.new.self.book in
    let same : c.of-before.result.value ≡ old =
    c.of-before.ensures
    ∙ (c.book.ensures.book
    ∙ ap (λ l. l.book) (c.deref.ensures ∙ sym c.deref_mut.ensures.value)) in
    let after : c.deref-2.result.now.book ≡ new = search rules in
    done_as (parts_of c.args.command.now) c.command-answer.result old c.of-before.result.value new
    c.deref-2.result.now.book same after c.command-answer.ensures.answer
