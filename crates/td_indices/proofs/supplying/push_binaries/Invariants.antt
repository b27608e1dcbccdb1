-- What the loop of `push_binaries` keeps.
use Rattle.std.proofs.Common.{◌≡◌, drop}
use Rattle.std.specs.List.{flat_map}
use Rattle.td_indices.specs.Kept.{binaries_of}
use Rattle.td_indices.specs.Sources.{sources_of}
use Rattle.td_indices.specs.Supplying.{offers_by, with_offers}
use Rattle.td_indices.proofs.supplying.push_binaries.Given as goal

-- what is left decides
abbrev pub invariant-loop-number : goal.invariant-loop-number
invariant-loop-number l =
    with_offers l.supply (flat_map (offers_by (sources_of l.sources.entries))
    (drop l.number (binaries_of l.binaries)))
    ≡ with_offers l.fn.supply
    (flat_map (offers_by (sources_of l.sources.entries)) (binaries_of l.binaries))
