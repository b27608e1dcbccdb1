-- What the loop of `rows_text` keeps.
use Rattle.std.proofs.Common.{◌≡◌, take}
use Rattle.std.specs.String.{string_bytes}
use Rattle.td_rows.specs.StateWriting.{state_text}
use Rattle.td_rows.proofs.state_writing.rows_text.Given as goal

-- the rows so far are written
abbrev pub invariant-loop-number : goal.invariant-loop-number
invariant-loop-number l = string_bytes l.text ≡ state_text (take l.number l.rows)
