-- What the loop of `Steps::by_levels` keeps.
use Rattle.std.proofs.Common.{◌≡◌, ◌+◌, string_bytes}
use Rattle.std.specs.List.{flat_map, range_with_len}
use Rattle.td_text.specs.Lines.{text_of}
use Rattle.td_query.specs.Tracking.{Tracking}
use Rattle.td_report.specs.Report.{level_words}
use Rattle.td_waves.specs.WavesView.{level_of}
use Rattle.td_waves.specs.declared.level.Level.TheVariants.{At}
use Rattle.td_plan.specs.inner.Stepping.{IsStepsOf, at_level, lines_under}
use Rattle.td_plan.proofs.steps.Steps.by_levels.Given as goal

-- the lines of the levels so far
abbrev pub invariant-loop-number : goal.invariant-loop-number
invariant-loop-number g l = (t : Tracking) → IsStepsOf t l.self
    → string_bytes l.out ≡ text_of (flat_map (λ n. lines_under l.self (level_words (At (n + 1)))
    (at_level (level_of l.waves) l.self (At (n + 1)))) (range_with_len 0 l.number))
