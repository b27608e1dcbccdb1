-- `read_ready`: the call of `from_line`.
use Rattle.std.proofs.Common.{sym}
use Rattle.td_lasting.proofs.OwnTexts.{arch_lacks}
use Rattle.td_lasting.proofs.own_request.read_ready.Goals as goal

pub from_line-requires : goal.from_line-requires
from_line-requires c = arch_lacks c.args.rest.now _ (sym c.in-Some.ensures)
