-- What the loop of `put_all_missing` keeps.
use Rattle.std.proofs.Common.{◌≡◌, ◌++◌, string_bytes}
use Rattle.std.specs.List.{flat_map, range_with_len}
use Rattle.td_text.specs.Lines.{text_of}
use Rattle.td_details.specs.Details.{missing_at}
use Rattle.td_details.proofs.details.put_all_missing.Given as goal

-- the architectures so far
abbrev pub invariant-loop-place : goal.invariant-loop-place
invariant-loop-place l = string_bytes l.out
    ≡ string_bytes l.fn.out ++ text_of (flat_map (missing_at l.archive) (range_with_len 0 l.place))
