-- `read_step`: the calls of `read_commit` and `read_by_verb`.
use Rattle.std.proofs.Common.{subst}
use Rattle.td_text.specs.Cut.{Without}
use Rattle.td_text.proofs.Cut.{Without-right}
use Rattle.td_simulate.proofs.step_line.read_step.Goals as goal

pub read_commit-requires : goal.read_commit-requires
read_commit-requires c =
    Without-right 10 c.part_at.result.0.now c.part_at.result.1.now
    (subst (Without 10) c.part_at.ensures.joined c.requires)

pub read_by_verb-requires : goal.read_by_verb-requires
read_by_verb-requires c =
    let rest = Without-right 10 c.part_at.result.0.now c.part_at.result.1.now
    (subst (Without 10) c.part_at.ensures.joined c.requires) in
    (subst (Without 10) c.in-Some-strip.ensures.found rest).1
