-- What the loop of `group_quarter` keeps.
use Rattle.std.proofs.Common.{take}
use Rattle.td_indices.specs.Kept.{binaries_of}
use Rattle.td_indices.specs.inner.Groups.{AreOfQuarter}
use Rattle.td_indices.proofs.grouping.group_quarter.Given as goal

-- the numbers of the first ones
abbrev pub invariant-loop-number : goal.invariant-loop-number
invariant-loop-number l =
    AreOfQuarter l.quarter (take l.number (binaries_of l.binaries)) l.numbers
