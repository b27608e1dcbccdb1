-- What the loop of `Asker::push_relation` keeps.
use Rattle.std.proofs.Common.{◌≡◌, ℕ, ◌<◌, ◌||◌, Bool, length}
use Rattle.std.specs.List.{list_any}
use Rattle.td_relation.specs.Members.{members}
use Rattle.td_relation.specs.MembersLeft.{members_left}
use Rattle.td_waves.specs.BuildsOn.{some_asked}
use Rattle.td_plan.specs.declared.asks.Ask.{Ask}
use Rattle.td_plan.specs.inner.Asking.{asks_at, asks_some}
use Rattle.td_plan.proofs.asks.Asker.push_relation.Given as goal

-- what is left decides
abbrev pub invariant-loop-member : goal.invariant-loop-member
invariant-loop-member l = record {
  len : length l.asks.items ≡ length l.fn.asks.items;
  asked : (k : ℕ) (test : Ask → Bool) → k < length l.fn.asks.items
      → (list_any test (asks_at l.asks.items k)
      || some_asked (asks_some l.self k test) (members_left l.member-iterator))
      ≡ (list_any test (asks_at l.fn.asks.items k)
      || some_asked (asks_some l.self k test) (members l.relation));
}
