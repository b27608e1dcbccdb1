-- What the loop of `Plan::put_names` keeps.
use Rattle.std.proofs.Common.{◌≡◌, ◌++◌, ◌∷◌, [], take, string_bytes}
use Rattle.std.specs.List.{flat_map}
use Rattle.td_plan.specs.inner.Planned.{sources_at}
use Rattle.td_plan.proofs.plan.Plan.put_names.Given as goal

-- the names so far
abbrev pub invariant-loop-number : goal.invariant-loop-number
invariant-loop-number l = string_bytes l.out ≡ string_bytes l.fn.out
    ++ flat_map (λ s. s.head.name ++ 32 ∷ [])
    (sources_at l.self.movers.items (take l.number-index l.numbers))
