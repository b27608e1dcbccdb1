-- `current_number`: what it answers.
use Rattle.std.proofs.Common.{option_map, sym, ap, ◌∙◌}
use Rattle.td_rows.proofs.Lists.{slice_get-map}
use Rattle.td_version.specs.Version.{parts_of}
use Rattle.td_indices.specs.Kept.{binary_of}
use Rattle.td_indices.specs.Opening.{current_number}
use Rattle.td_indices.proofs.opening.current_number.Goals as goal

pub returns-in-Some : goal.returns-in-Some
returns-in-Some c =
    c.number_of.ensures ∙ ap (current_number (parts_of c.args.parts.now) c.args.place)
    (sym (slice_get-map binary_of c.args.binaries.now c.args.number
    ∙ ap (option_map binary_of) (sym c.in-Some.ensures.entry)))

pub returns-in-None : goal.returns-in-None
returns-in-None c =
    ap (current_number (parts_of c.args.parts.now) c.args.place)
    (sym (slice_get-map binary_of c.args.binaries.now c.args.number
    ∙ ap (option_map binary_of) (sym c.in-None.ensures.entry)))
