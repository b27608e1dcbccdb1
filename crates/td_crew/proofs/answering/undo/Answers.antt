-- What a clerk says to an undo is what a book of the desk answers.
use Rattle.std.proofs.lemmas.Result.{IfOk-weaker}
use Rattle.td_desk.specs.Calls.{IsMetBy}
use Rattle.td_crew.proofs.Replied.{parts_undone, undo_said}
use Rattle.td_crew.proofs.answering.undo.Goals as goal

pub returns-clause-says : goal.returns-clause-says
returns-clause-says g c =
    IfOk-weaker c.undone.result _ _
    (λ refused put. undo_said (IsMetBy g.N.Named.table g.N.Named.origin g.N.Named.opened
    c.args.clerk.now.parts c.args.clerk.now.receipts) c.args.n c.undo.result.answer _ _
    c.args.clerk.now c.undo.new.clerk refused c.undo.ensures.answer c.undo.ensures.ok
    c.undo.ensures.err put)
    c.undone.ensures.ok

pub returns-clause-parts : goal.returns-clause-parts
returns-clause-parts g c =
    parts_undone c.args.n c.undo.result.answer c.args.clerk.now c.undo.new.clerk c.undo.ensures.ok
    c.undo.ensures.err
