-- What a clerk says to an arrival is what a book of the desk answers.
use Rattle.std.proofs.lemmas.Result.{IfOk-weaker}
use Rattle.td_desk.specs.Calls.{IsMetBy}
use Rattle.td_crew.proofs.Replied.{arrival_said}
use Rattle.td_crew.proofs.answering.arrive.Goals as goal

pub returns-clause-says : goal.returns-clause-says
returns-clause-says g c =
    let Of = IsMetBy g.N.Named.table g.N.Named.origin g.N.Named.opened c.args.clerk.now.parts
    c.args.clerk.now.receipts in
    IfOk-weaker c.arrived.result _ _
    (λ refused put. arrival_said Of c.args.key.now c.arrive-arrived.result.answer c.keys_made.result.now _ _
    c.args.clerk.now c.arrive-arrived.new.clerk refused c.arrive-arrived.ensures.answer c.arrive-arrived.ensures.ok
    c.arrive-arrived.ensures.err c.keys_made.ensures put)
    c.arrived.ensures.ok
