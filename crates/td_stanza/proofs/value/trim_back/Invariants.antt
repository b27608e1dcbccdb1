-- What the loop of `trim_back` keeps, and why it ends.
use Rattle.std.proofs.Common.{◌≡◌, length}
use denote.Text.{Utf8}
use denote.Shadow.{shadow}
use Rattle.td_stanza.specs.Value.{trimmed_back}
use Rattle.td_stanza.proofs.value.trim_back.Given as goal

abbrev pub invariant-loop-shorter : goal.invariant-loop-shorter
invariant-loop-shorter l = (trimmed_back l.fn.text ≡ trimmed_back l.rest) × shadow (Utf8 l.rest)

abbrev pub decreases-loop-shorter : goal.decreases-loop-shorter
decreases-loop-shorter l = length l.rest
