-- What the loop of `Asker::push_found` keeps.
use Rattle.std.proofs.Common.{◌≡◌, ℕ, ◌<◌, ◌&&◌, ◌||◌, Bool, length, nat_lt}
use Rattle.std.specs.List.{list_any}
use Rattle.td_relation.specs.Asked.{asked}
use Rattle.td_plan.specs.declared.asks.Ask.{Ask}
use Rattle.td_plan.specs.inner.Asking.{asks_at, asks_one}
use Rattle.td_plan.proofs.asks.Asker.push_found.Given as goal

-- the places so far
abbrev pub invariant-loop-place : goal.invariant-loop-place
invariant-loop-place l = record {
  len : length l.asks.items ≡ length l.fn.asks.items;
  asked : (k : ℕ) (test : Ask → Bool) → k < length l.fn.asks.items
      → list_any test (asks_at l.asks.items k) ≡ (list_any test (asks_at l.fn.asks.items k)
      || (nat_lt k l.place && asks_one l.self k test (asked l.alternative) l.found));
}
