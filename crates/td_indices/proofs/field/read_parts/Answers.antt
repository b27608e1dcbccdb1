-- `read_parts`: what it answers.
use Rattle.td_relation.proofs.VersionTexts.{read_is}
use Rattle.td_indices.proofs.field.read_parts.Goals as goal

pub returns : goal.returns
returns c = read_is c.args.text.now c.read.result c.read.ensures.found c.read.ensures.fault
