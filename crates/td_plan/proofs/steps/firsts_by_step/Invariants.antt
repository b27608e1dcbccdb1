-- What the loop of `firsts_by_step` keeps.
use Rattle.std.proofs.Common.{◌≡◌, ℕ, ◌+◌, ◌≤◌, length}
use Rattle.std.specs.Prelude.{filter}
use Rattle.std.specs.List.{range_with_len}
use Rattle.td_waves.specs.Graph.{bases_of, lists}
use Rattle.td_plan.specs.inner.Ordering.{ArePartsOf}
use Rattle.td_plan.specs.inner.Stepping.{is_first_on}
use Rattle.td_plan.proofs.steps.firsts_by_step.Given as goal

-- the first sources so far
abbrev pub invariant-loop-number : goal.invariant-loop-number
invariant-loop-number l = record {
  at : ArePartsOf (length l.parts.firsts.items) l.parts → (step : ℕ)
      → step ≤ length l.parts.firsts.items → bases_of (lists l.firsts.items) step
      ≡ filter (is_first_on l.parts step) (range_with_len 0 l.number);
  len : length l.firsts.items ≡ length l.parts.firsts.items + 1;
}
