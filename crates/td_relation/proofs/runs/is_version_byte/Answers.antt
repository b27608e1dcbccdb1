-- `is_version_byte`: what the table says.
use Rattle.std.proofs.Common.{refl, arith}
use Rattle.td_text.proofs.Tables.{agree_below, in_table-is}
use Rattle.td_relation.specs.declared.runs.TheConstants.{VERSION_BYTES}
use Rattle.td_relation.specs.RelationGrammar.{is_version_byte}
use Rattle.td_relation.proofs.runs.is_version_byte.Goals as goal

pub returns : goal.returns
unfolding agree_below
returns c = in_table-is VERSION_BYTES is_version_byte c.args.byte (omega arith) refl
