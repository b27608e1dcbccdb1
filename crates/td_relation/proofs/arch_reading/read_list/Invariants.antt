-- What the loop of `read_list` keeps, and why it ends.
use Rattle.std.proofs.Common.{◌≡◌, ◌+◌, ◌≤◌, ℕ, List, Some, None, length, map}
use Rattle.td_text.specs.Lines.{over_lines, lines_left, lines_of, left_len}
use Rattle.td_relation.specs.Arch.{words_of}
use Rattle.td_relation.specs.ArchReading.{arch_at, arch_step, archs_at, first_kept}
use Rattle.td_relation.proofs.arch_reading.read_list.Given as goal

abbrev pub decreases-loop-rest : goal.decreases-loop-rest
decreases-loop-rest l = left_len l.rest

-- what is left decides; a line takes at least a byte; as long as the first line that isn't skipped
-- isn't an architecture's, it is left
abbrev pub invariant-loop-rest : goal.invariant-loop-rest
invariant-loop-rest l = record {
  decides : over_lines arch_step (l.number + 1) (map words_of l.list.items) (lines_left l.rest)
      ≡ archs_at l.fn.text;
  small : l.number + left_len l.rest ≤ length l.fn.text + 1;
  few : length l.list.items ≤ 32;
  first : (line : List ℕ) → first_kept (lines_of l.fn.text) ≡ Some line → arch_at line ≡ None
      → first_kept (lines_left l.rest) ≡ Some line;
}
