-- What the loop of `next_provided` keeps.
use Rattle.std.proofs.Common.{◌≡◌}
use Rattle.std.specs.List.{flat_map}
use Rattle.td_relation.specs.MembersLeft.{members_left}
use Rattle.td_indices.specs.OfferedNames.{provided_names}
use Rattle.td_indices.proofs.offered_names.next_provided.Given as goal

-- the members so far offer no name
abbrev pub invariant-loop-member : goal.invariant-loop-member
invariant-loop-member l =
    flat_map provided_names (members_left l.members)
    ≡ flat_map provided_names (members_left l.fn.members)
