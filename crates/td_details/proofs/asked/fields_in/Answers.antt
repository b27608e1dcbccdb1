-- `fields_in`: one text or pattern more.
use Rattle.std.proofs.Common.{◌<◌, ◌∙◌, ℕ, List, ap, arith, length, map}
use Rattle.std.specs.Str.{bytes_eq}
use Rattle.td_query.specs.declared.atoms.Atom.{Atom}
use Rattle.td_query.specs.Atoms.{atom_shape}
use Rattle.td_details.specs.Asked.{field_of, with_new}
use Rattle.td_details.proofs.AskedOnce.{firsts_more}
use Rattle.td_details.proofs.asked.fields_in.Goals as goal

pub loop-atom-preserved : goal.loop-atom-preserved
loop-atom-preserved c =
    let atoms : List Atom = c.args.atoms.now in
    let within : c.loop-atom.atom-index < length atoms = omega (arith, c.loop-atom-test.true) in
    let old : List (List ℕ) = map (λ f. f.now) c.loop-atom.fields.items in
    firsts_more bytes_eq (λ a. field_of (atom_shape a)) atoms c.loop-atom.atom-index _ within
    old (map (λ f. f.now) c.push_field.new.fields.items) c.loop-atom.invariant
    (c.in_ok-push_field.ensures ∙ ap (λ (n : List ℕ). with_new bytes_eq old n) c.field.ensures)
