-- `read_piece`: an interrupted read loses nothing, and the interrupted ones are counted.
use Rattle.std.proofs.Common.{◌≡◌, length}
use Rattle.std.specs.Io.KnownBytes.{Keeps}
use Rattle.td_bytes.proofs.Failures.{AreBorne}
use Rattle.td_lasting.proofs.turns.read_piece.Given as goal

abbrev pub invariant-loop-tries : goal.invariant-loop-tries
invariant-loop-tries g l =
    (length l.buffer ≡ length l.initial.buffer)
    × Keeps (g.R.Read.remaining l.initial.reader) (g.R.Read.remaining l.reader)
    × (g.R.Reader.can_fail l.reader ≡ g.R.Reader.can_fail l.initial.reader)
    × AreBorne (g.R.Reader.can_fail l.initial.reader) l.tries
    (g.R.Reader.interruptions l.initial.reader) (g.R.Reader.interruptions l.reader)
