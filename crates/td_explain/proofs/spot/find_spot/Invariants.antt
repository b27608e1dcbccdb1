-- What the loop of `find_spot` keeps, and what gets less.
use Rattle.std.proofs.Common.{◌≡◌, ◌+◌, ◌≤◌, length}
use Rattle.td_text.specs.Lines.{lines_left, left_len}
use Rattle.td_explain.specs.Spot.{spot_in, spot_of}
use Rattle.td_explain.proofs.spot.find_spot.Given as goal

abbrev pub decreases-loop-rest : goal.decreases-loop-rest
decreases-loop-rest l = left_len l.rest

-- what is left decides; a line takes at least a byte
abbrev pub invariant-loop-rest : goal.invariant-loop-rest
invariant-loop-rest l =
    (spot_in l.point l.apart l.number (lines_left l.rest) ≡ spot_of l.fn.point l.fn.text)
    × (l.number + left_len l.rest ≤ length l.fn.text + 2)
