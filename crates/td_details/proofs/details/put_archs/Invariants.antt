-- What the loop of `put_archs` keeps.
use Rattle.std.proofs.Common.{◌≡◌, ◌++◌, map, string_bytes}
use Rattle.std.specs.List.{range_with_len}
use Rattle.td_text.specs.Lines.{text_of}
use Rattle.td_details.specs.Details.{arch_line_at}
use Rattle.td_details.proofs.details.put_archs.Given as goal

-- the architectures so far
abbrev pub invariant-loop-place : goal.invariant-loop-place
invariant-loop-place l = string_bytes l.out
    ≡ string_bytes l.fn.out ++ text_of (map (arch_line_at l.archive) (range_with_len 0 l.place))
