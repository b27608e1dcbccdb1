-- What the loop of `Steps::put_steps` keeps.
use Rattle.std.proofs.Common.{◌≡◌, ◌++◌, ◌-◌, string_bytes}
use Rattle.std.specs.List.{flat_map, range_with_len}
use Rattle.td_text.specs.Lines.{text_of}
use Rattle.td_query.specs.Tracking.{Tracking}
use Rattle.td_plan.specs.inner.Stepping.{IsStepsOf, lines_of_steps}
use Rattle.td_plan.proofs.steps.Steps.put_steps.Given as goal

-- the lines of the steps so far
abbrev pub invariant-loop-step : goal.invariant-loop-step
invariant-loop-step l = (t : Tracking) → IsStepsOf t l.self
    → string_bytes l.out ≡ string_bytes l.fn.out
    ++ text_of (flat_map (lines_of_steps l.why l.self) (range_with_len 1 (l.step - 1)))
