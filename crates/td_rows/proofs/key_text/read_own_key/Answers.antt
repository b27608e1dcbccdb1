-- `read_own_key`: the call of `from_lines`.
use Rattle.std.proofs.Common.{sym}
use Rattle.td_rows.proofs.KeyTexts.{key_exact}
use Rattle.td_rows.proofs.NoteLines.{key_lacks}
use Rattle.td_rows.proofs.key_text.read_own_key.Goals as goal

pub from_lines-requires-clause-source : goal.from_lines-requires-clause-source
from_lines-requires-clause-source c =
    (key_lacks _ (key_exact.found _ _ (sym c.in-Some.ensures)).1).0

pub from_lines-requires-clause-arch : goal.from_lines-requires-clause-arch
from_lines-requires-clause-arch c =
    (key_lacks _ (key_exact.found _ _ (sym c.in-Some.ensures)).1).1
