-- What the loop of `ready_flags` keeps.
use Rattle.std.proofs.Common.{◌≡◌, length, map}
use Rattle.std.specs.List.{range_with_len}
use Rattle.td_plan.specs.Due.{is_ready}
use Rattle.td_plan.specs.Premises.{Premises}
use Rattle.td_plan.specs.inner.Inputs.{AreFor, kept_source}
use Rattle.td_plan.proofs.due.ready_flags.Given as goal

-- the flags of the places so far
abbrev pub invariant-loop-place : goal.invariant-loop-place
invariant-loop-place l = record {
  ready : (p : Premises) → AreFor l.inputs p
      → l.flags.items ≡ map (is_ready p (kept_source l.source)) (range_with_len 0 l.place);
  len : length l.flags.items ≡ l.place;
}
