-- What the loop of `ready_nodes` keeps.
use Rattle.std.proofs.Common.{◌≡◌, ℕ, ◌==◌, nat_lt, get_or, if◌then◌else◌}
use Rattle.td_waves.specs.Graph.{uses}
use Rattle.td_waves.proofs.placing.ready_nodes.Given as goal

-- those so far that have nothing left
abbrev pub invariant-loop-node : goal.invariant-loop-node
invariant-loop-node l = (s : ℕ)
    → uses s l.ready.items ≡ (if nat_lt s l.node then (if get_or l.left s 1 == 0 then 1 else 0) else
    0)
