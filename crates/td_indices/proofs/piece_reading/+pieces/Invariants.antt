-- What gets less with each call of `read_pieces`, so that it ends.
use Rattle.std.proofs.Common.{◌+◌, ◌*◌}
use Rattle.td_indices.proofs.piece_reading.+pieces.Given as goal

-- how often the text may be halved still; `read_two` and its closures stand between that and the
-- next
abbrev pub decreases-read_pieces : goal.decreases-read_pieces
decreases-read_pieces g l = 3 * l.halvings

abbrev pub decreases-read_two : goal.decreases-read_two
decreases-read_two g l = 3 * l.halvings + 2

abbrev pub decreases-read_two-of_front : goal.decreases-read_two-of_front
decreases-read_two-of_front g l = 3 * l.halvings + 1

abbrev pub decreases-read_two-of_rest : goal.decreases-read_two-of_rest
decreases-read_two-of_rest g l = 3 * l.halvings + 1
