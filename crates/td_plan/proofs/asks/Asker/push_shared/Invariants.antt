-- What the loop of `Asker::push_shared` keeps.
use Rattle.std.proofs.Common.{◌≡◌, ℕ, ◌<◌, ◌||◌, Bool, length, take}
use Rattle.std.specs.List.{list_any}
use Rattle.td_relation.specs.Asked.{asked}
use Rattle.td_plan.specs.declared.asks.Ask.{Ask}
use Rattle.td_plan.specs.inner.Asking.{asks_at, asks_other}
use Rattle.td_plan.proofs.asks.Asker.push_shared.Given as goal

-- the packages so far
abbrev pub invariant-loop-found : goal.invariant-loop-found
invariant-loop-found l = record {
  len : length l.asks.items ≡ length l.fn.asks.items;
  asked : (k : ℕ) (test : Ask → Bool) → k < length l.fn.asks.items
      → list_any test (asks_at l.asks.items k) ≡ (list_any test (asks_at l.fn.asks.items k)
      || list_any (asks_other l.self k test (asked l.alternative))
      (take l.found-index l.found-items));
}
