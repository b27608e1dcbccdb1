-- What the loop of `put_back` keeps, and why it ends.
use Rattle.std.proofs.Common.{◌≡◌, vec_len}
use Rattle.td_change.specs.Inside.{put_back}
use Rattle.td_change.proofs.change.put_back.Given as goal

-- what is left to give back leads to the same rows
abbrev pub invariant-loop-number : goal.invariant-loop-number
invariant-loop-number l =
    put_back l.cells l.kept.items l.rows ≡ put_back l.fn.cells l.fn.kept.items l.fn.rows

abbrev pub decreases-loop-number : goal.decreases-loop-number
decreases-loop-number l = vec_len l.kept
