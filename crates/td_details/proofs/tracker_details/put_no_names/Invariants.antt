-- What the loop of `put_no_names` keeps.
use Rattle.std.proofs.Common.{◌≡◌, ◌++◌, map, string_bytes, take}
use Rattle.std.specs.List.{flat_map}
use Rattle.td_text.specs.Lines.{text_of}
use Rattle.td_query.specs.Atoms.{atom_shape}
use Rattle.td_query.specs.Tracking.{tracking}
use Rattle.td_details.specs.TrackerDetails.{no_name_at}
use Rattle.td_details.proofs.tracker_details.put_no_names.Given as goal

-- the texts and patterns so far
abbrev pub invariant-loop-i : goal.invariant-loop-i
invariant-loop-i l = string_bytes l.out ≡ string_bytes l.fn.out
    ++ text_of (flat_map (no_name_at (tracking l.tracker)) (map atom_shape (take l.i l.atoms)))
