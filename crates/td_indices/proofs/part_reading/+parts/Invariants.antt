-- What gets less with each call of `read_parts`, so that it ends.
use Rattle.std.proofs.Common.{◌+◌, ◌*◌}
use Rattle.td_indices.proofs.part_reading.+parts.Given as goal

-- how often the part may be halved still; the two closures stand between that and the next
abbrev pub decreases-read_parts : goal.decreases-read_parts
decreases-read_parts g l = 2 * l.halvings

abbrev pub decreases-of_front : goal.decreases-of_front
decreases-of_front g l = 2 * l.left + 1

abbrev pub decreases-of_rest : goal.decreases-of_rest
decreases-of_rest g l = 2 * l.left + 1
