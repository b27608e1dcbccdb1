-- What the loop of `first_unread` keeps, and what gets less.
use Rattle.std.proofs.Common.{◌≡◌}
use Rattle.td_text.specs.Lines.{left_len, pieces_left}
use Rattle.td_explain.specs.Unread.{first_unread, unread_in}
use Rattle.td_explain.proofs.unread.first_unread.Given as goal

abbrev pub decreases-loop-rest : goal.decreases-loop-rest
decreases-loop-rest l = left_len l.rest

-- what is left decides
abbrev pub invariant-loop-rest : goal.invariant-loop-rest
invariant-loop-rest l = first_unread (pieces_left 44 l.rest) ≡ unread_in l.fn.value
