-- `read_outcome_line`: the call of `read_ending`.
use Rattle.std.proofs.Common.{subst, ◌∷◌}
use Rattle.td_text.specs.Cut.{Without}
use Rattle.td_text.proofs.Cut.{Without-right}
use Rattle.td_builder.proofs.outcome_line.read_outcome_line.Goals as goal

pub read_ending-requires : goal.read_ending-requires
read_ending-requires c =
    (Without-right 10 c.in-Some.key.now (32 ∷ c.in-Some.rest.now)
    (subst (Without 10) c.in-Some.ensures.found.0 c.requires)).1
