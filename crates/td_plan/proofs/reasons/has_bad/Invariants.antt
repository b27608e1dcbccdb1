-- What the loop of `has_bad` keeps.
use Rattle.std.proofs.Common.{◌≡◌, ◌&&◌, false, take}
use Rattle.std.specs.List.{list_any}
use Rattle.td_indices.specs.PackageKeys.{same_home}
use Rattle.td_plan.specs.Premises.{Premises, is_bad}
use Rattle.td_plan.specs.inner.Inputs.{AreFor}
use Rattle.td_plan.proofs.Picking.{passes_at}
use Rattle.td_plan.proofs.reasons.has_bad.Given as goal

-- no package so far is bad and has this home
abbrev pub invariant-loop-number : goal.invariant-loop-number
invariant-loop-number l = (p : Premises) → AreFor l.inputs p → list_any
    (passes_at p.archive (λ b. same_home b.head.home l.home && is_bad p b))
    (take l.number-index l.number-items) ≡ false
