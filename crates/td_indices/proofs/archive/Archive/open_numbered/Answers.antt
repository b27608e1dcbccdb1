-- `Archive::open_numbered`: the call of `open_source`.
use Rattle.std.proofs.Common.{refl}
use Rattle.td_rows.proofs.NoteLines.{has_newline-Without}
use Rattle.td_text.proofs.Words.{Without-name}
use Rattle.td_indices.proofs.archive.Archive.open_numbered.Goals as goal

pub open_source-requires-clause-name : goal.open_source-requires-clause-name
open_source-requires-clause-name c =
    has_newline-Without c.in-Some.name.now
    (Without-name 10 c.in-Some.name.now refl c.in-Some.ensures.legal)
