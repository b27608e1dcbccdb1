-- `value_of`: what it answers.
use Rattle.td_stanza.specs.Table.{fields_of}
use Rattle.td_indices.proofs.FieldValues.{value_is}
use Rattle.td_indices.proofs.field.value_of.Goals as goal

pub returns : goal.returns
returns c =
    value_is (fields_of c.args.stanza.now) c.args.name.now c.get.result c.args.stanza.now.distinct
    c.get.ensures.found c.get.ensures.only
