-- What the loop of `empty_lists` keeps.
use Rattle.std.proofs.Common.{◌≡◌, ℕ, [], length}
use Rattle.td_report.specs.inner.Grouped.{list_at}
use Rattle.td_report.proofs.grouping.empty_lists.Given as goal

-- empty lists so far
abbrev pub invariant-loop-list : goal.invariant-loop-list
invariant-loop-list l = record {
  empty : (n : ℕ) → list_at l.lists.items n ≡ [];
  len : length l.lists.items ≡ l._list;
}
