-- What the loop of `greatest_among` keeps.
use Rattle.std.proofs.Common.{◌≡◌, ◌≤◌, IfSome, drop}
use Rattle.td_text.specs.Limits.{max_rebuild}
use Rattle.td_version.specs.Version.{parts_of}
use Rattle.td_indices.specs.Opening.{greatest_at}
use Rattle.td_plan.proofs.numbers.greatest_among.Given as goal

-- what is left decides
abbrev pub invariant-loop-number : goal.invariant-loop-number
invariant-loop-number l = record {
  is : greatest_at l.inputs.archive.now.binaries (parts_of l.source.parts) l.place l.best
      (drop l.number-index l.numbers)
      ≡ greatest_at l.inputs.archive.now.binaries (parts_of l.source.parts) l.place l.initial.best
      l.numbers;
  within : IfSome l.initial.best (λ n. n ≤ max_rebuild) → IfSome l.best (λ n. n ≤ max_rebuild);
}
