-- What the loop of `first_lacking` keeps, and why it ends.
use Rattle.std.proofs.Common.{◌+◌, ◌≤◌, length}
use Rattle.td_text.specs.Lines.{left_len, lines_left, lines_of}
use Rattle.td_inputs.proofs.LackingRows.{IsLeft}
use Rattle.td_inputs.proofs.lacking.first_lacking.Given as goal

abbrev pub decreases-loop-rest : goal.decreases-loop-rest
decreases-loop-rest l = left_len l.rest

-- the line is among those that are left; a line takes at least a byte
abbrev pub invariant-loop-rest : goal.invariant-loop-rest
invariant-loop-rest l = record {
  there : IsLeft l.fn.rows (l.number + 1) (lines_left l.rest) (lines_of l.fn.text);
  small : l.number + left_len l.rest ≤ length l.fn.text + 1;
}
