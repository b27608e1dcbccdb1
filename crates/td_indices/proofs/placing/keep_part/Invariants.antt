-- What the loop of `keep_part` keeps.
use Rattle.std.proofs.Common.{◌≡◌, take}
use Rattle.td_indices.specs.Kept.{binaries_of}
use Rattle.td_indices.specs.inner.Parts.{put_all}
use Rattle.td_indices.specs.inner.Placed.{ArePlaced, placed}
use Rattle.td_indices.proofs.placing.keep_part.Given as goal

-- at each place there is a package, and the packages so far are kept with those before them
abbrev pub invariant-loop-at : goal.invariant-loop-at
invariant-loop-at l =
    ArePlaced l.parts l.places.entries
    × (binaries_of (placed l.parts l.places.entries)
    ≡ put_all (binaries_of (placed l.parts l.fn.places.entries))
    (binaries_of (take l.at l.packages)))
