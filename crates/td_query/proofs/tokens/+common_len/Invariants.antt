-- Why `common_len` ends.
use Rattle.std.proofs.Common.{length}
use Rattle.td_query.proofs.tokens.+common_len.Given as goal

abbrev pub decreases-common_len : goal.decreases-common_len
decreases-common_len l = length l.a.now
