-- What the loop of `write_skips` keeps.
use Rattle.std.proofs.Common.{◌≡◌, ◌++◌, take}
use Rattle.std.specs.List.{flat_map}
use Rattle.std.specs.String.{string_bytes}
use Rattle.td_script.specs.Replies.{skip_line}
use Rattle.td_script.proofs.writing.write_skips.Given as goal

-- the lines so far are written
abbrev pub invariant-loop-skip : goal.invariant-loop-skip
invariant-loop-skip l =
    string_bytes l.out ≡ string_bytes l.fn.out ++ flat_map skip_line (take l.skip-index l.skips)
