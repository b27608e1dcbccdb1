-- What the loop of `source` keeps, and why it ends.
use Rattle.std.proofs.Common.{◌≡◌, ◌++◌}
use Rattle.std.specs.Prelude.{string_bytes}
use Rattle.td_text.specs.Lines.{left_len}
use Rattle.td_query.specs.Sources.{unescaped}
use Rattle.td_query.proofs.Unescaping.{unescaped_left}
use Rattle.td_query.proofs.unescape.source.Given as goal

abbrev pub decreases-loop-left : goal.decreases-loop-left
decreases-loop-left l = left_len l.left

-- what is left decides
abbrev pub invariant-loop-left : goal.invariant-loop-left
invariant-loop-left l = string_bytes l.out ++ unescaped_left l.left ≡ unescaped l.fn.raw
