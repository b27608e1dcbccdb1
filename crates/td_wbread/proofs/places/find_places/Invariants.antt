-- What the loop of `find_places` keeps.
use Rattle.td_wbread.proofs.PackagePlaces.{FindsFirst}
use Rattle.td_wbread.proofs.places.find_places.Given as goal

abbrev pub invariant-loop-place : goal.invariant-loop-place
invariant-loop-place l = FindsFirst l.place l.packages l.places
