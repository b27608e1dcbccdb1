-- What the loop of `SourceText::put_no_waits` keeps.
use Rattle.std.proofs.Common.{◌≡◌, ◌++◌, string_bytes}
use Rattle.std.specs.List.{flat_map, range_with_len}
use Rattle.td_text.specs.Lines.{text_of}
use Rattle.td_plan.specs.inner.Writing.{no_waits_at}
use Rattle.td_plan.proofs.source_text.SourceText.put_no_waits.Given as goal

-- the comments of the places so far
abbrev pub invariant-loop-place : goal.invariant-loop-place
invariant-loop-place l = string_bytes l.out ≡ string_bytes l.fn.out
    ++ text_of (flat_map (no_waits_at l.self.archive.now.table l.mover.source.name.now l.all)
    (range_with_len 0 l.place))
