-- What the loop of `put_each` keeps, and why it ends.
use Rattle.std.proofs.Common.{◌≡◌, map, vec_len}
use Rattle.td_supply.specs.Arrivals.{put_all}
use Rattle.td_supply.specs.SupplyViews.{item, rebuilt_at}
use Rattle.td_supply.proofs.arrival.put_each.Given as goal

-- what is left to put leads to the same items
abbrev pub invariant-loop-at : goal.invariant-loop-at
invariant-loop-at l =
    put_all (map rebuilt_at l.made.items) (map item l.items.items)
    ≡ put_all (map rebuilt_at l.fn.made.items) (map item l.fn.items.items)

abbrev pub decreases-loop-at : goal.decreases-loop-at
decreases-loop-at l = vec_len l.made
