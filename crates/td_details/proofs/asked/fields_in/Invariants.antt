-- What the loop of `fields_in` keeps.
use Rattle.std.proofs.Common.{◌≡◌, map, take}
use Rattle.std.specs.Str.{bytes_eq}
use Rattle.td_query.specs.Atoms.{atom_shape}
use Rattle.td_details.specs.Asked.{field_of, firsts}
use Rattle.td_details.proofs.asked.fields_in.Given as goal

-- the fields of the texts and patterns so far
abbrev pub invariant-loop-atom : goal.invariant-loop-atom
invariant-loop-atom l = map (λ f. f.now) l.fields.items
    ≡ firsts bytes_eq (map (λ a. field_of (atom_shape a)) (take l.atom-index l.atoms))
