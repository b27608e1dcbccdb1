-- What the loop of `push_provided` keeps.
use Rattle.std.proofs.Common.{◌≡◌}
use Rattle.std.specs.List.{flat_map}
use Rattle.td_relation.specs.Members.{members}
use Rattle.td_relation.specs.MembersLeft.{members_left}
use Rattle.td_indices.specs.Supplying.{provided, with_offers}
use Rattle.td_indices.proofs.supplying.push_provided.Given as goal

-- what is left decides
abbrev pub invariant-loop-member : goal.invariant-loop-member
invariant-loop-member l =
    with_offers l.supply (flat_map (provided l.arch) (members_left l.member-iterator))
    ≡ with_offers l.fn.supply (flat_map (provided l.arch) (members l.provides))
