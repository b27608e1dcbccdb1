-- What the loop of `places_of` keeps.
use Rattle.std.proofs.Common.{◌≡◌, [], take}
use Rattle.td_indices.specs.Kept.{binaries_of}
use Rattle.td_indices.specs.inner.Parts.{packages_in, put_all}
use Rattle.td_indices.specs.inner.Placed.{ArePlaced, placed}
use Rattle.td_indices.proofs.placing.places_of.Given as goal

-- at each place there is a package, and those of the parts so far are kept
abbrev pub invariant-loop-part : goal.invariant-loop-part
invariant-loop-part l =
    ArePlaced l.parts l.places.entries
    × (binaries_of (placed l.parts l.places.entries)
    ≡ put_all [] (binaries_of (packages_in (take l.part l.parts))))
