-- What the loop of `rebuilds` keeps.
use Rattle.std.proofs.Common.{◌≡◌, ◌++◌, drop, map}
use Rattle.td_supply.specs.declared.stocked.Stocked.{Stocked}
use Rattle.td_supply.specs.Arrivals.{made_of, rebuild_there}
use Rattle.td_supply.specs.SupplyViews.{rebuilt_at, supplied}
use Rattle.td_supply.proofs.arrival.rebuilds.Given as goal

-- those that are made, and those of what is left
abbrev pub invariant-loop-at : goal.invariant-loop-at
invariant-loop-at l =
    map rebuilt_at l.made.items
    ++ made_of (λ (s : Stocked). rebuild_there l.place l.number (supplied s)) l.items
    (drop l.at-index l.numbers)
    ≡ made_of (λ (s : Stocked). rebuild_there l.place l.number (supplied s)) l.items l.numbers
