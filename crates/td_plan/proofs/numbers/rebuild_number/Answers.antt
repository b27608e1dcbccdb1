-- `rebuild_number`: what it answers.
use Rattle.td_indices.proofs.RebuildNumbers.{rebuild_number-is}
use Rattle.td_plan.proofs.numbers.rebuild_number.Goals as goal

pub returns-clause-is : goal.returns-clause-is
returns-clause-is c =
    rebuild_number-is c.args.version.now c.split_rebuild-number.result.1 (λ base m is.
    (c.split_rebuild-number.ensures.only base m is).1)
