-- What the loop of `lines_of` keeps.
use Rattle.std.proofs.Common.{◌≡◌, take, string_bytes}
use Rattle.td_report.specs.inner.LinesText.{lines_text}
use Rattle.td_report.proofs.lines.lines_of.Given as goal

-- the lines so far
abbrev pub invariant-loop-item : goal.invariant-loop-item
invariant-loop-item l = string_bytes l.text ≡ lines_text l.fn.shown (take l.item-index l.items)
