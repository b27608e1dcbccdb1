-- What the loop of `told_of` keeps.
use Rattle.std.proofs.Common.{◌≡◌, [], map, take}
use Rattle.std.specs.Prelude.{filter}
use Rattle.td_plan.specs.Plan.{is_waiting}
use Rattle.td_plan.specs.inner.Told.{groups, seen_told, waiting_from}
use Rattle.td_plan.proofs.relations.told_of.Given as goal

-- the relations of the places so far
abbrev pub invariant-loop-place : goal.invariant-loop-place
invariant-loop-place l = map seen_told l.told.items
    ≡ groups [] (filter is_waiting (waiting_from 0 (take l.place l.waits)))
