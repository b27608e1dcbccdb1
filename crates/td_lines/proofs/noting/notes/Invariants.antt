-- What the loop of `notes` keeps, and what gets less.
use Rattle.std.proofs.Common.{◌≡◌, ◌+◌, ◌≤◌, ◌++◌, length, string_bytes}
use Rattle.td_indices.specs.Supplying.{supply_of}
use Rattle.td_text.specs.Lines.{left_len, lines_left, lines_of}
use Rattle.td_lines.specs.Notes.{notes_from}
use Rattle.td_lines.proofs.noting.notes.Given as goal

abbrev pub decreases-loop-rest : goal.decreases-loop-rest
decreases-loop-rest l = left_len l.rest

-- the notes so far, and those of the lines that are left; a line takes at least a byte
abbrev pub invariant-loop-rest : goal.invariant-loop-rest
invariant-loop-rest l =
    (string_bytes l.out ++ notes_from (supply_of l.fn.offered.archive.now)
    l.fn.offered.suite.now l.number (lines_left l.rest)
    ≡ notes_from (supply_of l.fn.offered.archive.now) l.fn.offered.suite.now 1
    (lines_of l.fn.script))
    × (l.number + left_len l.rest ≤ length l.fn.script + 2)
