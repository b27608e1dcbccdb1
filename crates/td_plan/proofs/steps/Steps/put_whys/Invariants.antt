-- What the loop of `Steps::put_whys` keeps.
use Rattle.std.proofs.Common.{◌≡◌, ◌++◌, take, string_bytes}
use Rattle.td_text.specs.Lines.{text_of}
use Rattle.td_query.specs.Tracking.{Tracking}
use Rattle.td_plan.specs.Steps.{part_with_reasons}
use Rattle.td_plan.specs.inner.Planned.{sources_at}
use Rattle.td_plan.specs.inner.Stepping.{AreSources, IsStepsOf, kept_in}
use Rattle.td_plan.proofs.steps.Steps.put_whys.Given as goal

-- the lines so far
abbrev pub invariant-loop-number : goal.invariant-loop-number
invariant-loop-number l = (t : Tracking) → IsStepsOf t l.self → AreSources l.self l.numbers
    → string_bytes l.out ≡ string_bytes l.fn.out
    ++ text_of (part_with_reasons l.self.archive.now (kept_in l.self)
    (sources_at l.self.movers.items (take l.number-index l.numbers)))
