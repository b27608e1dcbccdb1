-- What the loop of `Asker::push_alternative` keeps.
use Rattle.std.proofs.Common.{◌≡◌, ℕ, ◌<◌, ◌||◌, Bool, length, take}
use Rattle.std.specs.List.{list_any}
use Rattle.td_relation.specs.Asked.{asked}
use Rattle.td_plan.specs.declared.asks.Ask.{Ask}
use Rattle.td_plan.specs.inner.Asking.{asks_at, asks_shared}
use Rattle.td_plan.proofs.asks.Asker.push_alternative.Given as goal

-- the shares so far
abbrev pub invariant-loop-share : goal.invariant-loop-share
invariant-loop-share l = record {
  len : length l.asks.items ≡ length l.fn.asks.items;
  asked : (k : ℕ) (test : Ask → Bool) → k < length l.fn.asks.items
      → list_any test (asks_at l.asks.items k) ≡ (list_any test (asks_at l.fn.asks.items k)
      || list_any (asks_shared l.self k test (asked l.alternative))
      (take l.share-index l.share-items));
}
