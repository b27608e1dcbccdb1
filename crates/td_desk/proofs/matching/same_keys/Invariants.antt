-- What the loop of `same_keys` keeps.
use Rattle.std.specs.Prelude.{◌≡◌, drop}
use Rattle.td_desk.specs.inner.Matching.{same_keys}
use Rattle.td_desk.proofs.matching.same_keys.Given as goal

abbrev pub invariant-loop-at : goal.invariant-loop-at
invariant-loop-at l =
    same_keys (drop l.at l.these) (drop l.at l.those) ≡ same_keys l.fn.these l.fn.those
