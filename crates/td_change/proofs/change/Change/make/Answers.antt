-- `Change::make`: the clauses `kept` and `ok` and the call of `make`.
use Rattle.std.proofs.Common.{◌∙◌}
use Rattle.td_change.proofs.Plans.{plan_of-itself, AppliesOn-plan_of, saved-plan_of}
use Rattle.td_change.proofs.Plans.{applied-plan_of}
use Rattle.td_change.proofs.change.Change.make.Goals as goal

pub make-requires-clause-rows : goal.make-requires-clause-rows
make-requires-clause-rows c =
    plan_of-itself c.in_ok-plan.plan c.args.kind.now c.args.keys.now c.args.rows.now
    c.in_ok-plan.ensures

pub make-requires-clause-applies : goal.make-requires-clause-applies
make-requires-clause-applies c =
    AppliesOn-plan_of c.in_ok-plan.plan c.args.kind.now c.args.keys.now c.args.rows.now
    c.in_ok-plan.ensures c.requires.applies

pub returns-clause-kept : goal.returns-clause-kept
returns-clause-kept c =
    c.make.ensures.kept ∙ saved-plan_of c.in_ok-plan.plan c.args.kind.now c.args.keys.now
    c.args.rows.now c.in_ok-plan.ensures

pub returns-clause-ok : goal.returns-clause-ok
returns-clause-ok c =
    c.make.ensures.rows ∙ applied-plan_of c.in_ok-plan.plan c.args.kind.now c.args.keys.now
    c.args.rows.now c.in_ok-plan.ensures
