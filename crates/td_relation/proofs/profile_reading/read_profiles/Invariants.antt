-- What the loop of `read_profiles` keeps, and why it ends.
use Rattle.std.proofs.Common.{◌≡◌, false}
use Rattle.td_text.specs.Lines.{left_len, pieces_left, pieces_of}
use Rattle.td_relation.specs.RelationGrammar.{over, profile_step}
use Rattle.td_relation.proofs.profile_reading.read_profiles.Given as goal

abbrev pub decreases-loop-rest : goal.decreases-loop-rest
decreases-loop-rest l = left_len l.rest

-- what is left decides
abbrev pub invariant-loop-rest : goal.invariant-loop-rest
invariant-loop-rest l =
    over profile_step l.seen (pieces_left 62 l.rest)
    ≡ over profile_step (false, false) (pieces_of 62 l.fn.text)
