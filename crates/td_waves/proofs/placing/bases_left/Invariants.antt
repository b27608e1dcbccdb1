-- What the loop of `bases_left` keeps.
use Rattle.std.proofs.Common.{◌≡◌, length, map, take}
use Rattle.td_waves.specs.Graph.{lists}
use Rattle.td_waves.proofs.placing.bases_left.Given as goal

abbrev pub invariant-loop-bases : goal.invariant-loop-bases
invariant-loop-bases l = l.left.items ≡ map length (lists (take l.bases-index l.graph))
