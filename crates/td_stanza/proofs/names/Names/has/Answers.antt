-- `Names::has`: what it answers.
use Rattle.std.proofs.Common.{◌≡◌, Bool, false, ◌||◌, take, drop, sym, ap, ◌∙◌}
use Rattle.std.specs.List.{list_any}
use Rattle.td_stanza.specs.declared.entry.Field.{Field}
use Rattle.td_stanza.specs.Field.{is_same_name}
use Rattle.td_stanza.specs.inner.NotedNames.{compared}
use Rattle.td_stanza.proofs.NotedNames.{parted}
use Rattle.td_stanza.proofs.names.Names.has.Goals as goal

pub returns-else-has_name : goal.returns-else-has_name
returns-else-has_name c =
    let test : Field → Bool = λ field. is_same_name c.args.name.now field.name.now in
    let none : list_any test (take compared c.args.fields.now) ≡ false =
    ap (list_any test) (sym c.split_at.ensures.front) ∙ sym c.has_name-2.ensures
    ∙ c.if-has_name.false in
    c.contains.ensures
    ∙ c.requires.noted (record { name = c.args.name })
    ∙ ap (λ b. b || list_any test (drop compared c.args.fields.now)) (sym none)
    ∙ parted test c.args.fields.now
