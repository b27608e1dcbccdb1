-- What the loop of `each_once` keeps.
use Rattle.std.proofs.Common.{◌≡◌, ℕ, List, take}
use Rattle.td_waves.specs.Named.{is_among}
use Rattle.td_waves.proofs.named.each_once.Given as goal

-- the names so far
abbrev pub invariant-loop-name : goal.invariant-loop-name
invariant-loop-name l = (q : List ℕ)
    → is_among l.set.keys q ≡ is_among (take l.name-index l.names) q
