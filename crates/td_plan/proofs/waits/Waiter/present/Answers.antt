-- `Waiter::present`: the first that is named, else the first of all.
use Rattle.std.proofs.Common.{ap, ◌∙◌}
use Rattle.td_plan.specs.inner.Movers.{package_numbered}
use Rattle.td_plan.proofs.WaitSteps.{present-found, present-other}
use Rattle.td_plan.proofs.waits.Waiter.present.Goals as goal

pub returns-in-Some-clause-is : goal.returns-in-Some-clause-is
returns-in-Some-clause-is c = λ p beside s j is at are.
    present-found p beside s c.args.self.now is j c.args.owner.now at c.args.asks.now are c.requires
    c.first_named.result c.in-Some.number c.first_named.ensures c.in-Some.ensures.is
    c.in-Some.ensures.there

pub returns-in-None-clause-is : goal.returns-in-None-clause-is
returns-in-None-clause-is c = λ p beside s j is at are.
    present-other p beside s c.args.self.now is j c.args.owner.now at c.args.asks.now are c.requires
    c.first_named.result c.known-in-None.result c.first_named.ensures c.in-None.ensures.is
    (c.known-in-None.ensures.is
    ∙ ap (package_numbered c.args.self.now.archive.now) c.first_of.ensures)
