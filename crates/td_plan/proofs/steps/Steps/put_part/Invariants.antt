-- What the loop of `Steps::put_part` keeps.
use Rattle.std.proofs.Common.{◌≡◌, ◌++◌, map, take, string_bytes}
use Rattle.td_plan.specs.Lines.{spaced}
use Rattle.td_plan.specs.inner.Planned.{name_at}
use Rattle.td_plan.proofs.steps.Steps.put_part.Given as goal

-- the names so far
abbrev pub invariant-loop-number : goal.invariant-loop-number
invariant-loop-number l = string_bytes l.out ≡ string_bytes l.fn.out
    ++ spaced (map (name_at l.self.movers.items) (take l.number l.members))
