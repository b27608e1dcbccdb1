-- What the loop of `Waiter::found` keeps.
use Rattle.std.proofs.Common.{◌≤◌, ◌<◌, ◌-◌, ℕ, Bool, get_or, length, map, take}
use Rattle.td_indices.specs.Sources.{KeptSource}
use Rattle.td_plan.specs.declared.asks.Ask.{Ask}
use Rattle.td_plan.specs.Premises.{Premises}
use Rattle.td_plan.specs.inner.Asked.{AreAsks}
use Rattle.td_plan.specs.inner.Asking.{IsByOwner}
use Rattle.td_plan.specs.inner.Waiters.{AreFound, IsWaiter, kept_of}
use Rattle.td_plan.proofs.Waiters.{owner-at}
use Rattle.td_plan.proofs.waits.Waiter.found.Given as goal

-- what is waited for of the sources before the owner of the next asks
abbrev pub invariant-loop-start : goal.invariant-loop-start
invariant-loop-start l = record {
  within : l.start ≤ length l.asks;
  passed : IsByOwner l.asks → (k : ℕ) (d : Ask) → k < l.start → l.start < length l.asks
      → (get_or l.asks k d).owner < (get_or l.asks l.start d).owner;
  found : (p : Premises) (beside : KeptSource → Bool) (s : KeptSource)
      → IsWaiter p beside s l.self
      → AreAsks p.archive l.self.movers.now l.self.mover s l.self.place l.asks
      → AreFound p beside s l.self.place
      (map kept_of (take (owner-at l.asks l.start (length l.self.movers.now)) l.self.movers.now))
      l.found;
}

abbrev pub decreases-loop-start : goal.decreases-loop-start
decreases-loop-start l = length l.asks - l.start
