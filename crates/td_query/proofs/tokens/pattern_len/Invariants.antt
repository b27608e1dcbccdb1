-- What the loop of `pattern_len` keeps.
use Rattle.std.proofs.Common.{◌≡◌, false, drop}
use Rattle.td_query.specs.Tokens.{pattern_end}
use Rattle.td_query.proofs.Patterns.{moved}
use Rattle.td_query.proofs.tokens.pattern_len.Given as goal

-- what is left decides
abbrev pub invariant-loop-i : goal.invariant-loop-i
invariant-loop-i l = moved l.i (pattern_end l.escaped (drop l.i l.bytes)) ≡ pattern_end false
    l.bytes
