-- What the loop of `greatest_below` keeps.
use Rattle.std.proofs.Common.{◌≡◌, ◌⊎◌, ◌≤◌, ℕ, get_or, take}
use Rattle.std.specs.List.{All, Contains}
use Rattle.td_waves.specs.Graph.{BuildsOn, lists}
use Rattle.td_plan.proofs.parts.greatest_below.Given as goal

-- the greatest is a step below one of the members, and none below one so far is greater
abbrev pub invariant-loop-member : goal.invariant-loop-member
invariant-loop-member l = record {
  above : All (λ m. (b : ℕ) → BuildsOn (lists l.graph) m b → get_or l.steps b 0 ≤ l.greatest)
      (take l.member-index l.members);
  found : (l.greatest ≡ 0) ⊎ ((m : ℕ) × (b : ℕ) × Contains l.members m
      × BuildsOn (lists l.graph) m b × (get_or l.steps b 0 ≡ l.greatest));
}
