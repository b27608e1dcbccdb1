-- The members that are still to come, where a relation is gone through. This project's own.
use Rattle.std.specs.Prelude.{List, map}
use Rattle.td_relation.specs.declared.members.Members.{Members}
use Rattle.td_relation.specs.Asked.{Asked, asked}
use Rattle.td_relation.specs.Members.{chunked}

-- the members that are left, in their order
abbrev pub members_left : Members → List (List Asked)
members_left m = map (λ l. map asked l) (chunked m.sizes.now m.alternatives.now)
