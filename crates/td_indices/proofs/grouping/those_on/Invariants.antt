-- What the loop of `those_on` keeps.
use Rattle.std.proofs.Common.{◌≡◌, ℕ, false, filter, slice_get, take}
use Rattle.std.specs.Option.{option_map_or}
use Rattle.td_relation.specs.Meeting.{is_on}
use Rattle.td_indices.specs.Kept.{KeptBinary, binaries_of}
use Rattle.td_indices.proofs.grouping.those_on.Given as goal

-- of the numbers so far
abbrev pub invariant-loop-number : goal.invariant-loop-number
invariant-loop-number l =
    l.there.items ≡ filter
    (λ (n : ℕ). option_map_or (λ (b : KeptBinary). is_on l.arch b.head.home)
    (slice_get (binaries_of l.binaries) n) false) (take l.number-index l.numbers)
