-- What the loop of `members_of` keeps.
use Rattle.std.proofs.Common.{◌≡◌, ℕ, ◌<◌, ◌==◌, length, take}
use Rattle.td_indices.specs.Archive.{places_from}
use Rattle.td_waves.specs.Graph.{bases_of, lists}
use Rattle.td_plan.proofs.ordering.members_of.Given as goal

-- the numbers so far
abbrev pub invariant-loop-number : goal.invariant-loop-number
invariant-loop-number l = record {
  at : (first : ℕ) → first < length l.parts.firsts.items → bases_of (lists l.members.items) first
      ≡ places_from (λ f. f == first) 0 (take l.number l.parts.firsts.items);
  len : length l.members.items ≡ length l.parts.firsts.items;
}
