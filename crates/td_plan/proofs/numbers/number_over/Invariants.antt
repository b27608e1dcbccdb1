-- What the loop of `number_over` keeps.
use Rattle.std.proofs.Common.{◌≡◌, ◌+◌, ◌≤◌, false, get_or}
use Rattle.std.specs.List.{range_with_len}
use Rattle.td_text.specs.Limits.{max_rebuild}
use Rattle.td_plan.specs.Numbers.{numbers_at}
use Rattle.td_plan.specs.Premises.{Premises}
use Rattle.td_plan.specs.inner.Inputs.{AreFor, kept_source}
use Rattle.td_plan.proofs.Numbering.{least_over}
use Rattle.td_plan.proofs.numbers.number_over.Given as goal

-- the number over the places so far
abbrev pub invariant-loop-place : goal.invariant-loop-place
invariant-loop-place l = record {
  is : (p : Premises) → AreFor l.inputs p → l.number ≡ least_over
      (λ place. get_or l.flags place false) (numbers_at p (kept_source l.source))
      (range_with_len 0 l.place);
  within : l.number ≤ max_rebuild + 1;
}
