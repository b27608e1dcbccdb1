-- What the loop of `parts_of` keeps, and why it ends.
use Rattle.std.proofs.Common.{◌≡◌, ◌+◌, ◌-◌, ◌≤◌, length}
use denote.Text.{Utf8}
use denote.Shadow.{shadow}
use Rattle.td_text.specs.Lines.{lines_of}
use Rattle.td_simulate.specs.SimulationText.{lines_after, number_after}
use Rattle.td_simulate.proofs.TextParts.{IsTaken}
use Rattle.td_simulate.proofs.parts.parts_of.Given as goal

-- no line so far is the line `steps`: what is left decides
abbrev pub invariant-loop-rest : goal.invariant-loop-rest
invariant-loop-rest l = record {
  taken : IsTaken l.fn.text (length l.fn.text - length l.rest) l.rest;
  after : lines_after (lines_of l.fn.text) ≡ lines_after (lines_of l.rest);
  number : number_after 1 (lines_of l.fn.text) ≡ number_after (l.passed + 1) (lines_of l.rest);
  small : l.passed + length l.rest ≤ length l.fn.text;
  utf8 : shadow (Utf8 l.rest);
}

abbrev pub decreases-loop-rest : goal.decreases-loop-rest
decreases-loop-rest l = length l.rest
