-- `type_in`: what it answers.
use Rattle.std.proofs.Common.{ap, map, subst, ◌∙◌, IfOk, List}
use Rattle.std.specs.Prelude.{string_bytes}
use Rattle.td_relation.specs.Arch.{ArchWords}
use Rattle.td_wbread.specs.Command.{command_at}
use Rattle.td_wbread.specs.FaultNames.{name_of}
use Rattle.td_script.specs.Answering.{Answers, IsLeftBy}
use Rattle.td_script.specs.Replies.{types}
use Rattle.td_script.proofs.AnswerLaws.{Answers-refuse}
use Rattle.td_script.proofs.dispatch.type_in.Goals as goal

pub returns-in-Ok-clause-ok : goal.returns-in-Ok-clause-ok
returns-in-Ok-clause-ok g c =
    let b = c.args.book.now in
    subst (λ (t : List ArchWords). IfOk c.command.result (Answers
    (types b.fixed.stock b.history
    (command_at t (map (λ s. s.now) c.args.lent.now.suites.now) c.args.line.now)) b
    c.command.new.book (string_bytes c.args.out.now) (string_bytes c.command.new.out)))
    (c.archs.ensures ∙ ap (λ s. s.table) c.supply.ensures)
    (rw c.in-Ok.ensures.found c.command.ensures.ok)

pub returns-in-Err-Wrong-clause-ok : goal.returns-in-Err-Wrong-clause-ok
returns-in-Err-Wrong-clause-ok g c =
    let b = c.args.book.now in
    let first = rw c.in-Err-Wrong.field-0-is at c.in-Err-Wrong.ensures.fault in
    let said = rw c.name.ensures at c.refuse.ensures.ok in
    subst (λ (t : List ArchWords). IfOk c.refuse.result (Answers
    (types b.fixed.stock b.history
    (command_at t (map (λ s. s.now) c.args.lent.now.suites.now) c.args.line.now)) b b
    (string_bytes c.args.out.now) (string_bytes c.refuse.new.out)))
    (c.archs.ensures ∙ ap (λ s. s.table) c.supply.ensures)
    (rw first
    (Answers-refuse (name_of c.in-Err-Wrong.fault) b _ _ c.refuse.result said))

pub returns-in-Ok-clause-book : goal.returns-in-Ok-clause-book
returns-in-Ok-clause-book g c =
    let b = c.args.book.now in
    subst (λ (t : List ArchWords). IsLeftBy (types b.fixed.stock b.history
    (command_at t (map (λ s. s.now) c.args.lent.now.suites.now) c.args.line.now)) b
    c.command.new.book)
    (c.archs.ensures ∙ ap (λ s. s.table) c.supply.ensures)
    (rw c.in-Ok.ensures.found c.command.ensures.book)
