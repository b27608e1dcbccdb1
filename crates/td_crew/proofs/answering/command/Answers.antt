-- What a clerk says to a command is what a book of the desk answers.
use Rattle.std.proofs.lemmas.Result.{IfOk-weaker}
use Rattle.td_wbread.specs.Views.{parts_of}
use Rattle.td_desk.specs.Calls.{IsMetBy}
use Rattle.td_crew.proofs.Replied.{command_said}
use Rattle.td_crew.proofs.answering.command.Goals as goal

pub returns-clause-says : goal.returns-clause-says
returns-clause-says g c =
    let Of = IsMetBy g.N.Named.table g.N.Named.origin g.N.Named.opened c.args.clerk.now.parts
    c.args.clerk.now.receipts in
    IfOk-weaker c.commanded.result _ _
    (λ refused put. command_said Of (parts_of c.args.command.now) c.command-commanded.result.answer
    c.keys_made.result.now _ _ c.args.clerk.now c.command-commanded.new.clerk refused
    c.command-commanded.ensures.answer c.command-commanded.ensures.err c.keys_made.ensures put)
    c.commanded.ensures.ok
