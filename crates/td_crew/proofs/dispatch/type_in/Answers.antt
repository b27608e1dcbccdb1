-- A line that is no command is refused by its fault.
use Rattle.std.proofs.Common.{rules}
use Rattle.td_desk.specs.Calls.{IsMetBy}
use Rattle.td_crew.proofs.Replied.{fault_said}
use Rattle.td_crew.proofs.dispatch.type_in.Goals as goal

pub returns-in_ok-fault-in-Err-Wrong-clause-says :
    goal.returns-in_ok-fault-in-Err-Wrong-clause-says
returns-in_ok-fault-in-Err-Wrong-clause-says g c =
    fault_said
    (IsMetBy g.N.Named.table g.N.Named.origin g.N.Named.opened c.args.clerk.now.parts
    c.args.clerk.now.receipts) _ c.in-Err-Wrong.field-0
    c.in-Err-Wrong.fault _ _ _ _ c.in-Err-Wrong.ensures.fault c.in-Err-Wrong.field-0-is
    (search rules)
