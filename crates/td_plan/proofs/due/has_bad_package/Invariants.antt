-- What the loop of `has_bad_package` keeps.
use Rattle.std.proofs.Common.{◌≡◌, ◌&&◌, false, take}
use Rattle.std.specs.List.{list_any}
use Rattle.td_version.specs.Version.{parts_of}
use Rattle.td_indices.specs.Opening.{is_current}
use Rattle.td_plan.specs.Premises.{Premises, is_bad}
use Rattle.td_plan.specs.inner.Inputs.{AreFor}
use Rattle.td_plan.proofs.Picking.{passes_at}
use Rattle.td_plan.proofs.due.has_bad_package.Given as goal

-- no present package so far is bad
abbrev pub invariant-loop-number : goal.invariant-loop-number
invariant-loop-number l = (p : Premises) → AreFor l.inputs p → list_any
    (passes_at p.archive (λ b. is_current (parts_of l.source.parts) l.place b && is_bad p b))
    (take l.number-index l.number-items) ≡ false
