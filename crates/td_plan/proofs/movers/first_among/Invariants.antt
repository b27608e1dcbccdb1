-- What the loop of `first_among` keeps.
use Rattle.std.proofs.Common.{◌≡◌, ℕ, None, Option, drop, fold, slice_get}
use Rattle.td_version.specs.Version.{parts_of}
use Rattle.td_indices.specs.Kept.{KeptBinary}
use Rattle.td_indices.specs.Opening.{is_current}
use Rattle.td_plan.specs.InOrder.{earlier}
use Rattle.td_plan.specs.Packages.{package_name}
use Rattle.td_plan.specs.inner.Movers.{package_numbered, stepped}
use Rattle.td_plan.proofs.movers.first_among.Given as goal

-- what is left decides
abbrev pub invariant-loop-number : goal.invariant-loop-number
invariant-loop-number l =
    let step = λ (w : Option KeptBinary) (k : ℕ). stepped (earlier package_name)
    (is_current (parts_of l.source.parts) l.place) w (slice_get l.archive.binaries k) in
    fold step (package_numbered l.archive l.first) (drop l.number-index l.numbers)
    ≡ fold step None l.numbers
