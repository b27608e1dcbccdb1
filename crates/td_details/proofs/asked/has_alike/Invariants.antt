-- What the loop of `has_alike` keeps.
use Rattle.std.proofs.Common.{◌≡◌, false, map, take}
use Rattle.std.specs.List.{list_any}
use Rattle.td_query.specs.Atoms.{atom_shape}
use Rattle.td_query.specs.Tracking.{tracking}
use Rattle.td_details.specs.Asked.{are_alike}
use Rattle.td_details.proofs.asked.has_alike.Given as goal

-- none so far is like it
abbrev pub invariant-loop-other : goal.invariant-loop-other
invariant-loop-other l = list_any (are_alike (tracking l.tracker) (atom_shape l.atom))
    (map atom_shape (take l.other-index l.atoms)) ≡ false
