-- `push_atoms`: the parts of `&` and of `|`.
use Rattle.std.proofs.Common.{◌≡◌, ◌++◌, ◌∙◌, ◌≤◌, List, ap, arith, length, map, take}
use Rattle.std.specs.List.{flat_map}
use Rattle.std.proofs.lemmas.List.{take_all}
use Rattle.td_query.specs.declared.query.Query.{Query}
use Rattle.td_query.specs.Atoms.{atom_shape, atoms_of}
use Rattle.td_query.specs.Query.{Shape, shape_of}
use Rattle.td_query.proofs.FoundAtoms.{all_pushed, any_pushed}
use Rattle.td_query.proofs.atoms.+push_atoms.Goals as goal

pub push_parts-returns : goal.push_parts-returns
push_parts-returns t c =
    let old : List Shape = map atom_shape c.args.atoms.now.items in
    let new : List Shape = map atom_shape c.loop-i.atoms.items in
    let past : length c.args.parts.now ≤ c.loop-i.i = omega arith in
    let done : take c.loop-i.i c.args.parts.now ≡ c.args.parts.now =
    take_all c.loop-i.i c.args.parts.now past in
    let whole : new ≡ old ++ flat_map atoms_of (map shape_of c.args.parts.now) =
    c.loop-i.invariant
    ∙ ap (λ (ps : List Query). old ++ flat_map atoms_of (map shape_of ps)) done in
    record {
      all = all_pushed old (map shape_of c.args.parts.now) whole;
      any = any_pushed old (map shape_of c.args.parts.now) whole;
    }
