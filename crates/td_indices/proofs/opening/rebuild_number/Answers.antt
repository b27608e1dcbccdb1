-- `rebuild_number`: what it answers.
use Rattle.std.proofs.Common.{◌≡◌, true, false, ◌∙◌}
use Rattle.td_indices.proofs.RebuildNumbers.{rebuild_number-is}
use Rattle.td_indices.proofs.opening.rebuild_number.Goals as goal

pub returns-in-Some : goal.returns-in-Some
returns-in-Some c =
    c.in-Some.ensures.value
    ∙ rebuild_number-is c.args.version.now c.split_rebuild-number.result.1 (λ base m is.
    (c.split_rebuild-number.ensures.only base m is).1)

pub returns-in-None : goal.returns-in-None
returns-in-None c =
    absurd (let bad : false ≡ true =
    c.in-None.ensures.within.1 c.split_rebuild-number.ensures.found.bounded in cc)
