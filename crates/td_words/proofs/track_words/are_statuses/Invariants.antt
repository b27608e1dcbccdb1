-- What the loop of `are_statuses` keeps, and why it ends.
use Rattle.std.proofs.Common.{◌≡◌}
use Rattle.std.specs.List.{list_all}
use Rattle.td_text.specs.Lines.{left_len, pieces_left, pieces_of}
use Rattle.td_words.specs.ShownWords.{is_status_name}
use Rattle.td_words.proofs.track_words.are_statuses.Given as goal

abbrev pub decreases-loop-rest : goal.decreases-loop-rest
decreases-loop-rest l = left_len l.rest

-- what is left decides
abbrev pub invariant-loop-rest : goal.invariant-loop-rest
invariant-loop-rest l = list_all is_status_name (pieces_left 44 l.rest)
    ≡ list_all is_status_name (pieces_of 44 l.fn.list)
