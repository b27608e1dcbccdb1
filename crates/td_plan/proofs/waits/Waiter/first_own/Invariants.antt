-- What the loop of `Waiter::first_own` keeps.
use Rattle.std.proofs.Common.{◌≡◌, None, drop, fold}
use Rattle.td_plan.specs.inner.Movers.{package_numbered}
use Rattle.td_plan.specs.inner.Waiting.{next_own}
use Rattle.td_plan.proofs.waits.Waiter.first_own.Given as goal

-- what is left decides
abbrev pub invariant-loop-ask : goal.invariant-loop-ask
invariant-loop-ask l = fold (next_own l.self.archive.now l.self.place)
    (package_numbered l.self.archive.now l.first) (drop l.ask-index l.asks)
    ≡ fold (next_own l.self.archive.now l.self.place) None l.asks
