-- What the loop of `Asker::push_member` keeps.
use Rattle.std.proofs.Common.{◌≡◌, ℕ, ◌<◌, ◌||◌, Bool, length, take}
use Rattle.std.specs.List.{list_any}
use Rattle.td_relation.specs.Asked.{asked}
use Rattle.td_plan.specs.declared.asks.Ask.{Ask}
use Rattle.td_plan.specs.inner.Asking.{asks_at, asks_some}
use Rattle.td_plan.proofs.asks.Asker.push_member.Given as goal

-- the alternatives so far
abbrev pub invariant-loop-alternative : goal.invariant-loop-alternative
invariant-loop-alternative l = record {
  len : length l.asks.items ≡ length l.fn.asks.items;
  asked : (k : ℕ) (test : Ask → Bool) → k < length l.fn.asks.items
      → list_any test (asks_at l.asks.items k) ≡ (list_any test (asks_at l.fn.asks.items k)
      || list_any (λ x. asks_some l.self k test (asked x))
      (take l.alternative-index l.member));
}
