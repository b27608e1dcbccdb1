-- What the loop of `motions_of` keeps.
use Rattle.std.proofs.Common.{◌≡◌, length, map}
use Rattle.std.specs.List.{range_with_len}
use Rattle.td_plan.specs.Premises.{Premises}
use Rattle.td_plan.specs.inner.Inputs.{AreFor, kept_source}
use Rattle.td_plan.specs.inner.Motions.{motion_at}
use Rattle.td_plan.proofs.due.motions_of.Given as goal

-- what there is to do at the places so far
abbrev pub invariant-loop-place : goal.invariant-loop-place
invariant-loop-place l = record {
  motions : (p : Premises) → AreFor l.inputs p
      → l.at.items ≡ map (motion_at p (kept_source l.source)) (range_with_len 0 l.place);
  len : length l.at.items ≡ l.place;
}
