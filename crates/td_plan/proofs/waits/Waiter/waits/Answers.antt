-- `Waiter::waits`: what was found, in the order of the packages.
use Rattle.std.proofs.Common.{refl}
use Rattle.td_plan.proofs.WaitLoop.{waits-are}
use Rattle.td_plan.proofs.waits.Waiter.waits.Goals as goal

pub returns : goal.returns
returns c = λ p beside s is are.
    waits-are p beside s c.args.self.now is c.in_ok-found.found _
    (c.in_ok-found.ensures p beside s is are) refl c.sort_by_name.ensures.permutation
    c.sort_by_name.ensures.sorted
