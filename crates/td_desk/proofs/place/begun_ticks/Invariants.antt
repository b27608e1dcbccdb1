-- The ticks so far, and those of the marks in the rest of the text.
use Rattle.std.proofs.Common.{◌≡◌, ◌++◌, map, length}
use Rattle.td_desk.specs.Marks.{marks_in, marks_from}
use Rattle.td_desk.specs.inner.Ticks.{begun_at}
use Rattle.td_desk.proofs.place.begun_ticks.Given as goal

abbrev pub invariant-loop-byte : goal.invariant-loop-byte
invariant-loop-byte l =
    l.ticks.items ++ map begun_at (marks_from l.place l.rest) ≡ map begun_at (marks_in l.text)

abbrev pub decreases-loop-byte : goal.decreases-loop-byte
decreases-loop-byte l = length l.rest
