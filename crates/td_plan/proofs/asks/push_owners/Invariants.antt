-- What the loop of `push_owners` keeps.
use Rattle.std.proofs.Common.{◌≡◌, ◌++◌, map, take}
use Rattle.td_plan.proofs.asks.push_owners.Given as goal

-- the owners so far
abbrev pub invariant-loop-ask : goal.invariant-loop-ask
invariant-loop-ask l = l.bases.items
    ≡ l.fn.bases.items ++ map (λ ask. ask.owner) (take l.ask-index l.asks)
