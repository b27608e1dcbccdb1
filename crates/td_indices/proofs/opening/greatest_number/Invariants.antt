-- What the loop of `greatest_number` keeps.
use Rattle.std.proofs.Common.{◌≡◌, None, drop}
use Rattle.td_version.specs.Version.{parts_of}
use Rattle.td_indices.specs.Kept.{binaries_of}
use Rattle.td_indices.specs.Opening.{greatest_at}
use Rattle.td_indices.proofs.opening.greatest_number.Given as goal

-- what is left decides
abbrev pub invariant-loop-number : goal.invariant-loop-number
invariant-loop-number l =
    greatest_at (binaries_of l.binaries) (parts_of l.parts) l.place l.best
    (drop l.number-index l.numbers)
    ≡ greatest_at (binaries_of l.binaries) (parts_of l.parts) l.place None l.numbers
