-- What the loop of `put_no_fields` keeps.
use Rattle.std.proofs.Common.{◌≡◌, ◌++◌, map, string_bytes, take}
use Rattle.std.specs.List.{flat_map}
use Rattle.td_text.specs.Lines.{text_of}
use Rattle.td_details.specs.TrackerDetails.{no_field_at}
use Rattle.td_details.proofs.tracker_details.put_no_fields.Given as goal

-- the fields so far
abbrev pub invariant-loop-i : goal.invariant-loop-i
invariant-loop-i l = string_bytes l.out ≡ string_bytes l.fn.out
    ++ text_of (flat_map (no_field_at l.archive) (map (λ f. f.now) (take l.i l.fields)))
