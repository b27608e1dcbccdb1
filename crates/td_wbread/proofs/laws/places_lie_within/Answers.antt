-- `places_lie_within`: what it answers.
use Rattle.td_wbread.proofs.Within.{places_lie_within}
use Rattle.td_wbread.proofs.laws.places_lie_within.Goals as goal

pub returns : goal.returns
returns c = places_lie_within
