-- What the loop of `renew_each` keeps.
use Rattle.std.proofs.Common.{◌≡◌, ◌++◌, map, take, drop}
use Rattle.td_naming.specs.Skips.{renewed}
use Rattle.td_naming.proofs.skips.renew_each.Given as goal

abbrev pub invariant-loop-skip : goal.invariant-loop-skip
invariant-loop-skip l =
    l.skip-items ≡ map (renewed l.rows) (take l.skip-index l.fn.skips.items)
    ++ drop l.skip-index l.fn.skips.items
