-- What the loop of `skip_continuations` keeps, and why it ends.
use Rattle.td_text.specs.Lines.{left_len}
use Rattle.td_stanza.specs.Continuing.{Skips}
use Rattle.td_stanza.proofs.reading.skip_continuations.Given as goal

abbrev pub invariant-loop-rest : goal.invariant-loop-rest
invariant-loop-rest l = Skips l.fn.after l.rest

abbrev pub decreases-loop-rest : goal.decreases-loop-rest
decreases-loop-rest l = left_len l.rest
