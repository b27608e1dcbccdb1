-- What the loop of `first_packages` keeps.
use Rattle.std.proofs.Common.{◌≡◌, ℕ, ◌<◌, None, get_or, length}
use Rattle.td_plan.specs.Due.{is_present}
use Rattle.td_plan.specs.InOrder.{first_where}
use Rattle.td_plan.specs.Packages.{package_name}
use Rattle.td_plan.specs.inner.Inputs.{kept_source}
use Rattle.td_plan.specs.inner.Movers.{package_numbered}
use Rattle.td_plan.proofs.movers.first_packages.Given as goal

-- the first packages at the places so far
abbrev pub invariant-loop-place : goal.invariant-loop-place
invariant-loop-place l = record {
  at : (k : ℕ) → k < l.place → package_numbered l.archive (get_or l.packages.items k None)
      ≡ first_where package_name (is_present (kept_source l.source) k) l.archive.binaries;
  len : length l.packages.items ≡ l.place;
}
