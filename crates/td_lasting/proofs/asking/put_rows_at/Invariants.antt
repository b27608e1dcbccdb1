-- What the loop of `put_rows_at` keeps: the lines of the rows so far are appended.
use Rattle.std.proofs.Common.{◌≡◌, ◌++◌, take}
use Rattle.std.specs.Prelude.{slice_get}
use Rattle.std.specs.List.{filter_map}
use Rattle.std.specs.String.{string_bytes}
use Rattle.td_rows.specs.StateWriting.{state_text}
use Rattle.td_lasting.proofs.asking.put_rows_at.Given as goal

abbrev pub invariant-loop-number : goal.invariant-loop-number
invariant-loop-number l =
    string_bytes l.out ≡ string_bytes l.initial.out
    ++ state_text (filter_map (slice_get l.rows) (take l.number-index l.numbers))
