-- What the loop of `Bases::put_reasons` keeps.
use Rattle.std.proofs.Common.{◌≡◌, ℕ, ◌-◌, ◌<◌, ◌≤◌, Some, get_or, length, slice_get, string_bytes}
use Rattle.td_query.specs.Tracking.{Tracking}
use Rattle.td_plan.specs.declared.asks.Ask.{Ask}
use Rattle.td_plan.specs.declared.movers.Mover.{Mover}
use Rattle.td_plan.specs.inner.Asking.{IsByOwner}
use Rattle.td_plan.specs.inner.Bases.{AreAsksAnywhere, AreBases}
use Rattle.td_plan.specs.inner.Waiters.{kept_of}
use Rattle.td_plan.proofs.ReasonLoop.{IsTold}
use Rattle.td_plan.proofs.bases.Bases.put_reasons.Given as goal

-- the reasons for the owners before that of the next asks
abbrev pub invariant-loop-start : goal.invariant-loop-start
invariant-loop-start l = record {
  within : l.start ≤ length l.asks;
  passed : IsByOwner l.asks → (k : ℕ) (d : Ask) → k < l.start → l.start < length l.asks
      → (get_or l.asks k d).owner < (get_or l.asks l.start d).owner;
  told : (t : Tracking) (own : ℕ) (m : Mover) → AreBases t l.self
      → slice_get l.self.movers.now own ≡ Some m
      → AreAsksAnywhere l.self.archive.now l.self.movers.now own (kept_of m) l.asks
      → IsTold l.self.archive.now (kept_of m) l.self.movers.now l.asks (string_bytes l.fn.out)
      l.start (string_bytes l.out);
}

abbrev pub decreases-loop-start : goal.decreases-loop-start
decreases-loop-start l = length l.asks - l.start
