-- What the loop of `asks_anywhere` keeps.
use Rattle.std.proofs.Common.{◌≡◌, Bool, take}
use Rattle.std.specs.List.{list_any}
use Rattle.td_plan.specs.declared.asks.Ask.{Ask}
use Rattle.td_plan.specs.inner.Bases.{any_asked}
use Rattle.td_plan.proofs.bases.asks_anywhere.Given as goal

-- the asks at the places so far
abbrev pub invariant-loop-list : goal.invariant-loop-list
invariant-loop-list l = (test : Ask → Bool)
    → list_any test l.all.items ≡ any_asked test (take l.list-index l.asks.items)
