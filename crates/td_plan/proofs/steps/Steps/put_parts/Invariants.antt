-- What the loop of `Steps::put_parts` keeps.
use Rattle.std.proofs.Common.{◌≡◌, ◌<◌, ◌++◌, length, take, string_bytes}
use Rattle.std.specs.List.{All}
use Rattle.td_text.specs.Lines.{text_of}
use Rattle.td_query.specs.Tracking.{Tracking}
use Rattle.td_waves.specs.Graph.{lists}
use Rattle.td_plan.specs.inner.Stepping.{AreMembersOf, IsStepsOf, parts_lines}
use Rattle.td_plan.proofs.steps.Steps.put_parts.Given as goal

-- the lines so far
abbrev pub invariant-loop-first : goal.invariant-loop-first
invariant-loop-first l = (t : Tracking) → IsStepsOf t l.self
    → AreMembersOf l.self (lists l.members) → All (λ n. n < length l.members) l.firsts
    → string_bytes l.out ≡ string_bytes l.fn.out
    ++ text_of (parts_lines l.why l.self (lists l.members) (take l.first-index l.firsts))
