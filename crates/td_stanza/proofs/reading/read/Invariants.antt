-- What the loop of `read` keeps, and why it ends.
use Rattle.std.proofs.Common.{drop}
use Rattle.td_text.specs.Lines.{left_len}
use Rattle.td_stanza.specs.inner.NotedNames.{AreNoted}
use Rattle.td_stanza.proofs.Progress.{IsRead}
use Rattle.td_stanza.proofs.reading.read.Given as goal

abbrev pub invariant-loop-rest : goal.invariant-loop-rest
invariant-loop-rest l =
    IsRead l.fn.text l.rest l.fields.items l.starts.items l.first
    × AreNoted l.names (drop l.first l.fields.items)

abbrev pub decreases-loop-rest : goal.decreases-loop-rest
decreases-loop-rest l = left_len l.rest
