-- What the loop of `readied` keeps.
use Rattle.std.proofs.Common.{◌≡◌, map, take}
use Rattle.td_change.specs.Inside.{ready}
use Rattle.td_change.proofs.plan.readied.Given as goal

-- the keys so far are there
abbrev pub invariant-loop-key : goal.invariant-loop-key
invariant-loop-key l = l.made.entries ≡ map (ready l.kind l.rows) (take l.key-index l.keys)
