-- What the loop of `read_rows` keeps, and why it ends.
use Rattle.std.proofs.Common.{◌≡◌, ◌+◌, ◌≤◌, length}
use Rattle.td_text.specs.Lines.{over_lines, lines_left, left_len}
use Rattle.td_rows.specs.StateReading.{state_step, state_rows}
use Rattle.td_rows.proofs.state_reading.read_rows.Given as goal

abbrev pub decreases-loop-rest : goal.decreases-loop-rest
decreases-loop-rest l = left_len l.rest

-- what is left decides; a line takes at least a byte
abbrev pub invariant-loop-rest : goal.invariant-loop-rest
invariant-loop-rest l = record {
  decides : over_lines state_step (l.number + 1) l.rows.entries (lines_left l.rest)
      ≡ state_rows l.fn.text;
  small : l.number + left_len l.rest ≤ length l.fn.text + 1;
}
