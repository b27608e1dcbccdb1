-- What the loop of `push_atoms` keeps.
use Rattle.std.proofs.Common.{◌≡◌, ◌++◌, map, take}
use Rattle.std.specs.List.{flat_map}
use Rattle.td_query.specs.Atoms.{atom_shape, atoms_of}
use Rattle.td_query.specs.Query.{shape_of}
use Rattle.td_query.proofs.atoms.+push_atoms.Given as goal

-- the parts so far
abbrev pub invariant-push_parts-loop-i : goal.invariant-push_parts-loop-i
invariant-push_parts-loop-i l = map atom_shape l.atoms.items
    ≡ map atom_shape l.fn.atoms.items ++ flat_map atoms_of (map shape_of (take l.i l.parts))
