-- `Stanza::get`: the clauses `found`, `only` and `absent`.
use Rattle.std.proofs.Common.{option_map, sym, ap, ◌∙◌}
use Rattle.td_stanza.specs.Table.{shown, fields_of}
use Rattle.td_stanza.proofs.Lookups.{find-shown, find_there, find_absent, only_named}
use Rattle.td_stanza.proofs.table.Stanza.get.Goals as goal

pub returns-in-Some-clause-found : goal.returns-in-Some-clause-found
returns-in-Some-clause-found c =
    find_there c.args.name.now (fields_of c.args.self.now) (shown c.in-Some.field.now)
    (sym (find-shown c.args.name.now c.args.self.now.fields.now)
    ∙ ap (option_map shown) (sym c.in-Some.ensures))

pub returns-in-Some-clause-only : goal.returns-in-Some-clause-only
returns-in-Some-clause-only c = λ value has.
    ap (option_map (λ f. f.value))
    (ap (option_map shown) c.in-Some.ensures
    ∙ find-shown c.args.name.now c.args.self.now.fields.now)
    ∙ only_named c.args.name.now value (fields_of c.args.self.now) c.args.self.now.distinct has

pub returns-in-None-clause-absent : goal.returns-in-None-clause-absent
returns-in-None-clause-absent c =
    find_absent c.args.name.now (fields_of c.args.self.now)
    (sym (find-shown c.args.name.now c.args.self.now.fields.now)
    ∙ ap (option_map shown) (sym c.in-None.ensures))

pub returns-in-None-clause-only : goal.returns-in-None-clause-only
returns-in-None-clause-only c = λ value has.
    ap (option_map (λ f. f.value))
    (ap (option_map shown) c.in-None.ensures
    ∙ find-shown c.args.name.now c.args.self.now.fields.now)
    ∙ only_named c.args.name.now value (fields_of c.args.self.now) c.args.self.now.distinct has
