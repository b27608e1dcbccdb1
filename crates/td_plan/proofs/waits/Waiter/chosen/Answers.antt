-- `Waiter::chosen`: a package of the present version, else one of an older version.
use Rattle.td_plan.proofs.WaitSteps.{chosen-none, chosen-own, chosen-present}
use Rattle.td_plan.proofs.waits.Waiter.chosen.Goals as goal

pub returns-in-Some : goal.returns-in-Some
returns-in-Some c = λ p beside s j is at are.
    chosen-present p beside s c.args.self.now is j c.args.owner.now at c.args.asks.now are
    c.requires c.in-Some.number (c.in-Some.ensures.is p beside s j is at are)
    c.in-Some.ensures.there

pub returns-in-Some-first_own : goal.returns-in-Some-first_own
returns-in-Some-first_own c = λ p beside s j is at are.
    chosen-own p beside s c.args.self.now is j c.args.owner.now at c.args.asks.now are c.requires
    c.in-Some-first_own.number (c.in-None.ensures.is p beside s j is at are)
    c.in-Some-first_own.ensures

pub returns-in-None-first_own : goal.returns-in-None-first_own
returns-in-None-first_own c = λ p beside s j is at are.
    chosen-none p beside s c.args.self.now is j c.args.owner.now at c.args.asks.now are c.requires
    (c.in-None.ensures.is p beside s j is at are) c.in-None-first_own.ensures
