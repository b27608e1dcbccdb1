-- `Plan::put_part`: nothing before a part of one, else its names.
use Rattle.std.proofs.Common.{arith, string_bytes}
use Rattle.td_plan.proofs.PlanLines.{part-nothing, part-whole}
use Rattle.td_plan.proofs.plan.Plan.put_part.Goals as goal

pub returns-then-members-lt2-clause-ok : goal.returns-then-members-lt2-clause-ok
returns-then-members-lt2-clause-ok c = λ all.
    part-nothing c.args.self.now.movers.items c.args.members.now (string_bytes c.args.out.now)
    (omega arith) all

pub returns-clause-ok : goal.returns-clause-ok
returns-clause-ok c = λ all.
    part-whole c.args.self.now.movers.items c.args.members.now (string_bytes c.args.out.now)
    (string_bytes c.push_str.new.self) (string_bytes c.put_names.new.out) _ (omega arith) all
    c.in_ok-push_str.ensures.bytes c.in_ok-put_names.ensures.ok c.in_ok-push_str-2.ensures.bytes
