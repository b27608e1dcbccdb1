-- What the loop of `empty_lists` keeps.
use Rattle.std.proofs.Common.{◌≡◌, ℕ, [], length}
use Rattle.td_plan.specs.inner.Asking.{asks_at}
use Rattle.td_plan.proofs.asks.empty_lists.Given as goal

-- empty lists so far
abbrev pub invariant-loop-list : goal.invariant-loop-list
invariant-loop-list l = record {
  empty : (place : ℕ) → asks_at l.lists.items place ≡ [];
  len : length l.lists.items ≡ l._list;
}
