-- What the loop of `put_all_found` keeps.
use Rattle.std.proofs.Common.{◌≡◌, ◌++◌, map, string_bytes, take}
use Rattle.td_text.specs.Lines.{text_of}
use Rattle.td_query.specs.Atoms.{atom_shape}
use Rattle.td_query.specs.Tracking.{tracking}
use Rattle.td_details.specs.TrackerDetails.{found_line_in}
use Rattle.td_details.proofs.tracker_details.put_all_found.Given as goal

-- the texts and patterns so far
abbrev pub invariant-loop-i : goal.invariant-loop-i
invariant-loop-i l = string_bytes l.out ≡ string_bytes l.fn.out
    ++ text_of (map (found_line_in l.archive (tracking l.tracker))
    (map atom_shape (take l.i l.atoms)))
