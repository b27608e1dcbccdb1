-- What the loop of `push_all` keeps.
use Rattle.std.proofs.Common.{◌≡◌, ◌++◌, take}
use Rattle.td_plan.proofs.bases.push_all.Given as goal

-- the asks so far
abbrev pub invariant-loop-ask : goal.invariant-loop-ask
invariant-loop-ask l = l.all.items ≡ l.fn.all.items ++ take l.ask-index l.asks
