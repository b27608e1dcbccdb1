-- `read_finish`: the call of `read_ending`.
use Rattle.std.proofs.Common.{sym}
use Rattle.td_lasting.proofs.OwnTexts.{behind_lacks}
use Rattle.td_lasting.proofs.own_request.read_finish.Goals as goal

pub read_ending-requires : goal.read_ending-requires
read_ending-requires c =
    behind_lacks c.args.rest.now (c.in-Some.builder, c.in-Some.text.now) (sym c.in-Some.ensures)
    c.requires
