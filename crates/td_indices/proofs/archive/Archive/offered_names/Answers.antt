-- `Archive::offered_names`: what it answers.
use Rattle.std.proofs.Common.{◌≡◌, [], Option, Some, option_map, slice_get, sym, ap, ◌∙◌}
use Rattle.std.specs.Option.{option_map_or}
use Rattle.td_rows.proofs.Lists.{slice_get-map}
use Rattle.td_indices.specs.declared.packaged.PackageKey.{PackageKey}
use Rattle.td_indices.specs.declared.packaged.Packaged.{Packaged}
use Rattle.td_indices.specs.Archive.{Contents}
use Rattle.td_indices.specs.Kept.{KeptBinary, binaries_of, binary_of}
use Rattle.td_indices.specs.OfferedNames.{offered_names}
use Rattle.td_indices.proofs.archive.Archive.offered_names.Goals as goal

pub returns : goal.returns
returns c =
    let es = c.self.inside.binaries in
    let p : PackageKey × Packaged = (c.in-Some.key.now, c.in-Some.packaged.now) in
    let got : slice_get (binaries_of es) c.args.binary ≡ Some (binary_of p) =
    slice_get-map binary_of es c.args.binary
    ∙ ap (option_map binary_of) (sym c.in-Some.ensures.entry) in
    c.of_package.ensures
    ∙ sym (ap (λ (o : Option KeptBinary). option_map_or offered_names o []) got)
    ∙ ap (λ (a : Contents). option_map_or offered_names (slice_get a.binaries c.args.binary) [])
    c.self.view_is
