-- What a clerk says to a sweep is what a book of the desk answers.
use Rattle.std.proofs.Common.{List, ℕ, rules}
use Rattle.std.specs.Prelude.{string_bytes}
use Rattle.std.proofs.lemmas.Result.{IfOk-weaker}
use Rattle.td_book.specs.Desk.{BookModel}
use Rattle.td_desk.specs.declared.receipt.Receipt.{Receipt}
use Rattle.td_desk.specs.Calls.{IsMetBy}
use Rattle.td_crew.proofs.Replied.{sweep_seen, sweep_unmade}
use Rattle.td_crew.proofs.answering.sweep.Goals as goal

pub returns-in-Some-clause-says : goal.returns-in-Some-clause-says
returns-in-Some-clause-says g c =
    let Of = λ (parts : ℕ) (had : List Receipt) (b : BookModel).
    IsMetBy g.N.Named.table g.N.Named.origin g.N.Named.opened parts had b in
    IfOk-weaker c.swept.result _ _
    (λ refused put. sweep_seen string_bytes Of c.in-Some.number c.sweep-swept.result.answer c.show_as-seen.result.answer _ _
    c.args.clerk.now c.sweep-swept.new.clerk c.show_as-seen.new.clerk refused (search rules)
    c.sweep-swept.ensures.answer c.sweep-swept.ensures.ok c.show_as-seen.ensures.seen c.show_as-seen.ensures.same put)
    c.swept.ensures.ok

pub returns-in-None-clause-says : goal.returns-in-None-clause-says
returns-in-None-clause-says g c =
    let Of = λ (had : List Receipt) (b : BookModel).
    IsMetBy g.N.Named.table g.N.Named.origin g.N.Named.opened c.args.clerk.now.parts had b in
    sweep_unmade Of c.sweep-swept.result.answer c.unswept.result _ _ c.args.clerk.now
    c.sweep-swept.new.clerk c.unswept.ensures.none c.sweep-swept.ensures.answer
    c.sweep-swept.ensures.ok c.unswept.ensures.ok
