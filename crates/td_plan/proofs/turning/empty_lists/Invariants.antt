-- What the loop of `empty_lists` keeps.
use Rattle.std.proofs.Common.{◌≡◌, ℕ, [], length}
use Rattle.td_waves.specs.Graph.{bases_of, lists}
use Rattle.td_plan.proofs.turning.empty_lists.Given as goal

-- empty lists so far
abbrev pub invariant-loop-list : goal.invariant-loop-list
invariant-loop-list l = record {
  empty : (t : ℕ) → bases_of (lists l.users.items) t ≡ [];
  len : length l.users.items ≡ l._list;
}
