-- What the loop of `Asker::asks` keeps.
use Rattle.std.proofs.Common.{◌≡◌, ℕ, ◌<◌, Bool, length}
use Rattle.std.specs.List.{list_any}
use Rattle.td_plan.specs.declared.asks.Ask.{Ask}
use Rattle.td_plan.specs.inner.Asking.{IsByOwner, asks_at}
use Rattle.td_plan.proofs.asks.Asker.asks.Given as goal

-- the asks are the same as before the loop, and in order as far as it has come
abbrev pub invariant-loop-place : goal.invariant-loop-place
invariant-loop-place l = record {
  len : length l.asks.items ≡ length l.initial.asks.items;
  same : (k : ℕ) (test : Ask → Bool)
      → list_any test (asks_at l.asks.items k) ≡ list_any test (asks_at l.initial.asks.items k);
  sorted : (k : ℕ) → k < l.place → IsByOwner (asks_at l.asks.items k);
}
