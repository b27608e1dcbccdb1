-- `is_name_byte`: what the table says.
use Rattle.std.proofs.Common.{refl, arith}
use Rattle.td_text.specs.declared.word.TheConstants.{NAME_BYTES}
use Rattle.td_text.specs.Words.{is_name_byte}
use Rattle.td_text.proofs.Tables.{agree_below, in_table-is}
use Rattle.td_text.proofs.word.is_name_byte.Goals as goal

pub returns : goal.returns
unfolding agree_below
returns c = in_table-is NAME_BYTES is_name_byte c.args.byte (omega arith) refl
