-- What the loop of `SourceText::all_waits` keeps.
use Rattle.std.proofs.Common.{◌≡◌, ℕ, Some, length}
use Rattle.std.specs.Prelude.{slice_get}
use Rattle.td_indices.specs.Sources.{KeptSource}
use Rattle.td_plan.specs.declared.waits.Waits.{Waits}
use Rattle.td_plan.specs.Placing.{Placing}
use Rattle.td_plan.specs.Premises.{Premises}
use Rattle.td_plan.specs.inner.Sources.{AreRowWaits, IsTold}
use Rattle.td_plan.proofs.source_text.SourceText.all_waits.Given as goal

-- the waits at the places so far
abbrev pub invariant-loop-place : goal.invariant-loop-place
invariant-loop-place l = record {
  len : length l.all.items ≡ l.place;
  at : (p : Premises) (x : Placing) (s : KeptSource) → IsTold p x s l.self
      → slice_get l.self.movers.now l.self.number ≡ Some l.mover
      → (place : ℕ) (w : Waits) → slice_get l.all.items place ≡ Some w
      → AreRowWaits p x s place w;
}
