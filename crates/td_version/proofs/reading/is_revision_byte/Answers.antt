-- `is_revision_byte`: what the table says.
use Rattle.std.proofs.Common.{refl, arith}
use Rattle.td_text.proofs.Tables.{agree_below, in_table-is}
use Rattle.td_version.specs.declared.reading.TheConstants.{REVISION_BYTES}
use Rattle.td_version.specs.Grammar.{is_revision_byte}
use Rattle.td_version.proofs.reading.is_revision_byte.Goals as goal

pub returns : goal.returns
unfolding agree_below
returns c = in_table-is REVISION_BYTES is_revision_byte c.args.byte (omega arith) refl
