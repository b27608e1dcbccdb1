-- What the loop of `read_pieces` keeps, and why it ends.
use Rattle.std.proofs.Common.{◌≡◌, ◌+◌, ◌-◌, ◌≤◌, length, take}
use Rattle.std.specs.Str.{IsUtf8}
use Rattle.std.specs.Io.KnownBytes.{Consumes}
use Rattle.td_bytes.proofs.reading.read_pieces.Given as goal

-- what was read so far is what the reader lost, the bytes that are known to be a text are one, and
-- no read has failed
abbrev pub invariant-loop-bytes : goal.invariant-loop-bytes
invariant-loop-bytes g l =
    Consumes (g.R.Read.remaining l.fn.reader) (g.R.Read.remaining l.reader) l.bytes.items
    × (length l.bytes.items ≤ l.limit) × (l.known ≤ length l.bytes.items)
    × IsUtf8 (take l.known l.bytes.items)
    × (g.R.Reader.can_fail l.reader ≡ g.R.Reader.can_fail l.fn.reader)

abbrev pub decreases-loop-bytes : goal.decreases-loop-bytes
decreases-loop-bytes g l = l.limit + 1 - length l.bytes.items
