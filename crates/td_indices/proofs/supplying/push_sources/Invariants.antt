-- What the loop of `push_sources` keeps.
use Rattle.std.proofs.Common.{◌≡◌, drop, map, take}
use Rattle.td_indices.specs.Sources.{sources_of}
use Rattle.td_indices.specs.Supplying.{listed, with_sources}
use Rattle.td_indices.proofs.supplying.push_sources.Given as goal

-- what is left decides, and the sources so far are there
abbrev pub invariant-loop-number : goal.invariant-loop-number
invariant-loop-number l = record {
  decides : with_sources l.supply (drop l.number (sources_of l.sources.entries))
      ≡ with_sources l.fn.supply (sources_of l.sources.entries);
  there : l.supply.sources ≡ map listed (take l.number (sources_of l.sources.entries));
}
