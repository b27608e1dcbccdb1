-- What the loop of `Bases::first_asked` keeps.
use Rattle.std.proofs.Common.{◌≡◌, None, drop, fold}
use Rattle.td_plan.specs.inner.Bases.{next_asked}
use Rattle.td_plan.specs.inner.Movers.{package_numbered}
use Rattle.td_plan.proofs.bases.Bases.first_asked.Given as goal

-- what is left decides
abbrev pub invariant-loop-ask : goal.invariant-loop-ask
invariant-loop-ask l = fold (next_asked l.self.archive.now)
    (package_numbered l.self.archive.now l.first) (drop l.ask-index l.asks)
    ≡ fold (next_asked l.self.archive.now) None l.asks
