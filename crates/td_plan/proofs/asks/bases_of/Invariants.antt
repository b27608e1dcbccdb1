-- What the loop of `bases_of` keeps.
use Rattle.std.proofs.Common.{◌≡◌, take}
use Rattle.td_plan.specs.inner.Asking.{owners_of}
use Rattle.td_plan.proofs.asks.bases_of.Given as goal

-- the owners at the places so far
abbrev pub invariant-loop-list : goal.invariant-loop-list
invariant-loop-list l = l.bases.items ≡ owners_of (take l.list-index l.asks.items)
