-- `field_value`: what it answers if there is such a stanza.
use Rattle.td_stanza.specs.Table.{fields_of}
use Rattle.td_explain.proofs.Unreads.{value_found}
use Rattle.td_explain.proofs.unread.field_value.Goals as goal

pub returns : goal.returns
returns c =
    value_found c.args.number c.saturating_sub.result c.args.name.now c.args.text.now _
    (fields_of c.in-Some.stanza) c.get.result c.saturating_sub.ensures c.in-Ok.ensures.found
    c.in-Ok.ensures.only c.in-Some.ensures.value c.get.ensures.found c.get.ensures.only
