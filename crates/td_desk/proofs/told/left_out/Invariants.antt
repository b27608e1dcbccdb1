-- What the loop of `left_out` keeps.
use Rattle.std.proofs.Common.{◌≡◌, ◌≤◌, ◌++◌, length, ◌+◌}
use Rattle.std.specs.Prelude.{vec_len, vec_capacity}
use Rattle.td_desk.specs.Calls.{skipped_keys}
use Rattle.td_desk.specs.inner.Matching.{left_out as left_out_of}
use Rattle.td_desk.proofs.told.left_out.Given as goal

abbrev pub invariant-loop-key : goal.invariant-loop-key
invariant-loop-key l = record {
  same : l.told.items ++ left_out_of l.key-iterator.rest.items (skipped_keys l.rest)
      ≡ left_out_of l.fn.named.items (skipped_keys l.fn.skips);
  room : vec_len l.told + length l.key-iterator.rest.items ≤ vec_capacity l.told;
}
