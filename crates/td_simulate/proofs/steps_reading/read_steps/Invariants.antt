-- What the loop of `read_steps` keeps, and why it ends.
use Rattle.std.proofs.Common.{◌≡◌, ◌+◌, ◌≤◌, length}
use denote.Text.{Utf8}
use denote.Shadow.{shadow}
use Rattle.td_text.specs.Lines.{lines_of, ended}
use Rattle.td_text.proofs.SpelledLines.{AreRead}
use Rattle.td_simulate.specs.StepLines.{StepFits, step_line}
use Rattle.td_simulate.proofs.steps_reading.read_steps.Given as goal

-- the steps so far, before the lines of what is left
abbrev pub invariant-loop-rest : goal.invariant-loop-rest
invariant-loop-rest l = record {
  read : AreRead step_line StepFits (ended (lines_of l.fn.text)) l.steps.items
      (ended (lines_of l.rest));
  counted : l.number ≡ l.fn.first + length l.steps.items;
  small : l.number + length l.rest ≤ l.fn.first + length l.fn.text;
  utf8 : shadow (Utf8 l.rest);
}

abbrev pub decreases-loop-rest : goal.decreases-loop-rest
decreases-loop-rest l = length l.rest
