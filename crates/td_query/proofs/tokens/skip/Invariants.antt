-- What the loop of `skip` keeps, and why it ends.
use Rattle.std.proofs.Common.{◌≡◌, ◌≤◌, ◌+◌, length}
use Rattle.td_text.specs.Lines.{left_len}
use Rattle.td_query.specs.Tokens.{skipped}
use Rattle.td_query.proofs.Skips.{skipped_left}
use Rattle.td_query.proofs.tokens.skip.Given as goal

abbrev pub decreases-loop-left : goal.decreases-loop-left
decreases-loop-left l = left_len l.left

-- what is left decides
abbrev pub invariant-loop-left : goal.invariant-loop-left
invariant-loop-left l = record {
  decides : skipped_left l.left ≡ skipped l.fn.text;
  small : left_len l.left ≤ length l.fn.text + 1;
}
