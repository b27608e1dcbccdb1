-- What the loop of `write_whole` keeps, and why it ends.
use Rattle.std.proofs.Common.{◌≡◌, ℕ, List, ◌++◌, length}
use Rattle.std.specs.Io.KnownBytes.{Appends}
use Rattle.td_bytes.proofs.writing.write_whole.Given as goal

-- what was taken so far comes before what is left, and no write has failed
abbrev pub invariant-loop-rest : goal.invariant-loop-rest
invariant-loop-rest g l =
    ((done : List ℕ) × (l.initial.rest ≡ done ++ l.rest)
    × Appends (g.W.Write.contents l.initial.writer) (g.W.Write.contents l.writer) done)
    × (g.W.Writer.can_fail l.writer ≡ g.W.Writer.can_fail l.initial.writer)

abbrev pub decreases-loop-rest : goal.decreases-loop-rest
decreases-loop-rest g l = length l.rest
