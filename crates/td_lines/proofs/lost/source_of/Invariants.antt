-- What the loop of `source_of` keeps.
use Rattle.td_lines.proofs.Packages.{SoFar}
use Rattle.td_lines.proofs.lost.source_of.Given as goal

-- what is left decides
abbrev pub invariant-loop-number : goal.invariant-loop-number
invariant-loop-number l = SoFar l.fn.archive l.fn.name l.number
