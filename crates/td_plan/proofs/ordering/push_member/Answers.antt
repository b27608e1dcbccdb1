-- `push_member`: the clause `lists`.
use Rattle.std.proofs.Common.{arith}
use Rattle.td_plan.proofs.Positions.{lists-pushed}
use Rattle.td_plan.proofs.ordering.push_member.Goals as goal

pub returns-clause-lists : goal.returns-clause-lists
returns-clause-lists c = λ k low.
    lists-pushed c.args.members.now.items c.args.first c.args.number c.index_mut.result.now
    c.push.new.self (omega arith) c.index_mut.ensures.value c.in_ok-push.ensures.items k
