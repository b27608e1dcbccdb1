-- What the loop of `write_piece` keeps.
use Rattle.std.proofs.Common.{◌≡◌}
use Rattle.std.specs.Io.KnownBytes.{Keeps}
use Rattle.td_bytes.proofs.Failures.{AreBorne}
use Rattle.td_bytes.proofs.writing.write_piece.Given as goal

-- an interrupted write takes nothing, and the interrupted ones are counted
abbrev pub invariant-loop-tries : goal.invariant-loop-tries
invariant-loop-tries g l =
    Keeps (g.W.Write.contents l.initial.writer) (g.W.Write.contents l.writer)
    × (g.W.Writer.can_fail l.writer ≡ g.W.Writer.can_fail l.initial.writer)
    × AreBorne (g.W.Writer.can_fail l.initial.writer) l.tries
    (g.W.Writer.interruptions l.initial.writer) (g.W.Writer.interruptions l.writer)
