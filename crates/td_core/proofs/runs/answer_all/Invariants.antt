-- What the loop of `answer_all` keeps.
use Rattle.std.proofs.Common.{◌≡◌}
use Rattle.td_core.specs.Steps.{after_all, answers_to}
use Rattle.td_core.proofs.runs.answer_all.Given as goal

-- the steps so far are taken and answered
abbrev pub invariant-loop-step : goal.invariant-loop-step
invariant-loop-step l = record {
  world : l.world ≡ after_all l.fn.world l.yielded;
  answers : l.answers.items ≡ answers_to l.fn.world l.yielded;
}
