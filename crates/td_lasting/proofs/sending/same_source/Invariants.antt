-- What the loop of `same_source` keeps: the keys so far are of the source of the first.
use Rattle.td_lasting.proofs.SentLines.{AreFirst}
use Rattle.td_lasting.proofs.sending.same_source.Given as goal

abbrev pub invariant-loop-number : goal.invariant-loop-number
invariant-loop-number l = AreFirst l.first.source l.keys l.number
