-- `unread_relation`: what it answers if the text is stanzas.
use Rattle.std.proofs.Common.{Some, None, Ok, ap, ◌∙◌, refl}
use Rattle.td_explain.proofs.Unreads.{unread_found, value_given}
use Rattle.td_explain.proofs.unread.unread_relation.Goals as goal

pub returns-in-Ok-Some : goal.returns-in-Ok-Some
returns-in-Ok-Some c =
    unread_found c.args.number c.args.name.now c.args.text.now c.in-Ok-Some.value.now
    c.first_unread.result
    (value_given c.args.number c.args.name.now c.args.text.now c.field_value.result
    (Some c.in-Ok-Some.value) (c.in-Ok-Some.is ∙ ap Ok c.in-Ok-Some.field-0-is) c.field_value.ensures)
    c.first_unread.ensures

pub returns-in-Ok-None : goal.returns-in-Ok-None
returns-in-Ok-None c = (
  None,
  value_given c.args.number c.args.name.now c.args.text.now c.field_value.result None
      (c.in-Ok-None.is ∙ ap Ok c.in-Ok-None.field-0-is) c.field_value.ensures,
  refl,
)
