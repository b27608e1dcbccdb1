-- What the loop of `fits` keeps.
use Rattle.std.proofs.Common.{◌≡◌, false}
use Rattle.std.specs.List.{list_any, range_with_len}
use Rattle.td_relation.specs.Asked.{asked}
use Rattle.td_waves.specs.BuildsOn.{fits_at}
use Rattle.td_waves.proofs.fitting.fits.Given as goal

-- nowhere so far
abbrev pub invariant-loop-place : goal.invariant-loop-place
invariant-loop-place l = list_any (fits_at l.archive l.source (asked l.alternative) l.home)
    (range_with_len 0 l.place) ≡ false
