-- What the loops of `own_counts` keep.
use Rattle.std.proofs.Common.{◌≡◌, ◌<◌, ℕ, count_by, get_or, length, take}
use Rattle.td_details.specs.Counts.{is_own}
use Rattle.td_details.proofs.owning.own_counts.Given as goal

-- zeros so far
abbrev pub invariant-loop-place : goal.invariant-loop-place
invariant-loop-place l = record {
  zero : (p : ℕ) → get_or l.counts.items p 0 ≡ 0;
  len : length l.counts.items ≡ l._place;
}

-- the packages so far are counted
abbrev pub invariant-loop-number : goal.invariant-loop-number
invariant-loop-number l = record {
  each : (p : ℕ) → p < length l.archive.table
      → get_or l.counts.items p 0 ≡ count_by (is_own p) (take l.number l.archive.binaries);
  len : length l.counts.items ≡ length l.archive.table;
}
