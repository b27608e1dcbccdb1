-- What the loop of `group_end` keeps.
use Rattle.std.proofs.Common.{◌≡◌, ℕ, ◌-◌, ◌<◌, ◌≤◌, get_or, length}
use Rattle.td_plan.specs.declared.asks.Ask.{Ask}
use Rattle.td_plan.proofs.waits.group_end.Given as goal

-- all asks so far have the owner of the first
abbrev pub invariant-loop-end : goal.invariant-loop-end
invariant-loop-end l = record {
  after : l.start < l.end;
  within : l.end ≤ length l.asks;
  first : (d : Ask) → l.owner ≡ (get_or l.asks l.start d).owner;
  same : (k : ℕ) (d : Ask) → l.start ≤ k → k < l.end → (get_or l.asks k d).owner ≡ l.owner;
}

abbrev pub decreases-loop-end : goal.decreases-loop-end
decreases-loop-end l = length l.asks - l.end
