-- What the loop of `asked` keeps.
use Rattle.std.proofs.Common.{◌≡◌, map, take}
use Rattle.td_query.specs.Atoms.{atom_shape}
use Rattle.td_query.specs.Tracking.{tracking}
use Rattle.td_details.specs.Asked.{are_alike, firsts}
use Rattle.td_details.proofs.asked.asked.Given as goal

-- of the texts and patterns so far each once
abbrev pub invariant-loop-atom : goal.invariant-loop-atom
invariant-loop-atom l = map atom_shape l.atoms.items
    ≡ firsts (are_alike (tracking l.tracker)) (map atom_shape (take l.atom-index l.atom-items))
