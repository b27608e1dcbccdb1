-- What the loop of `Waiter::first_named` keeps.
use Rattle.std.proofs.Common.{◌≡◌, None, drop, fold}
use Rattle.td_version.specs.Version.{parts_of}
use Rattle.td_plan.specs.inner.Movers.{package_numbered}
use Rattle.td_plan.specs.inner.Waiting.{next_named}
use Rattle.td_plan.proofs.waits.Waiter.first_named.Given as goal

-- what is left decides
abbrev pub invariant-loop-ask : goal.invariant-loop-ask
invariant-loop-ask l = fold (next_named l.self.archive.now (parts_of l.owner.source.parts)
    l.self.place) (package_numbered l.self.archive.now l.first) (drop l.ask-index l.asks)
    ≡ fold (next_named l.self.archive.now (parts_of l.owner.source.parts) l.self.place) None l.asks
