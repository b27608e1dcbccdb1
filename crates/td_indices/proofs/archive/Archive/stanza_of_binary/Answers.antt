-- `Archive::stanza_of_binary`: the clause `there` and the call of `unwrap`.
use Rattle.std.proofs.Common.{◌≡◌, Some, option_map, slice_get, sym, ap, ◌∙◌}
use Rattle.std.specs.Map.Iter.{deref_pair}
use Rattle.td_rows.proofs.Lists.{slice_get-map}
use Rattle.td_stanza.specs.Table.{fields_of}
use Rattle.td_indices.specs.declared.packaged.PackageKey.{PackageKey}
use Rattle.td_indices.specs.declared.packaged.Packaged.{Packaged}
use Rattle.td_indices.specs.Archive.{Contents}
use Rattle.td_indices.specs.Kept.{KeptBinary, binaries_of, binary_of}
use Rattle.td_indices.proofs.KeptStanzas.{binary_kept, mapped}
use Rattle.td_relation.specs.TableView.{table}
use Rattle.td_indices.proofs.archive.Archive.stanza_of_binary.Goals as goal

pub unwrap-requires-2 : goal.unwrap-requires-2
unwrap-requires-2 c =
    let es = c.self.inside.binaries in
    let p : PackageKey × Packaged = (c.unwrap.result.0.now, c.unwrap.result.1.now) in
    let at : slice_get es c.args.binary ≡ Some p =
    sym c.get_index.ensures.entry ∙ ap (option_map deref_pair) c.unwrap.ensures in
    let got : slice_get (binaries_of es) c.args.binary ≡ Some (binary_of p) =
    slice_get-map binary_of es c.args.binary ∙ ap (option_map binary_of) at in
    let its = binary_kept (table c.self.inside.archs.now) c.self.inside.packages
    (binaries_of es) c.args.binary (binary_of p) c.self.invariant.4 got in
    mapped fields_of c.stanza.result its.fields (c.stanza.ensures.value ∙ its.there)

pub returns-clause-there : goal.returns-clause-there
returns-clause-there c =
    let es = c.self.inside.binaries in
    let p : PackageKey × Packaged = (c.unwrap.result.0.now, c.unwrap.result.1.now) in
    let at : slice_get es c.args.binary ≡ Some p =
    sym c.get_index.ensures.entry ∙ ap (option_map deref_pair) c.unwrap.ensures in
    let got : slice_get (binaries_of es) c.args.binary ≡ Some (binary_of p) =
    slice_get-map binary_of es c.args.binary ∙ ap (option_map binary_of) at in
    sym (ap (λ (a : Contents).
    option_map (λ (x : KeptBinary). slice_get a.packages x.stanza)
    (slice_get a.binaries c.args.binary)) c.self.view_is)
    ∙ ap (option_map (λ (x : KeptBinary). slice_get c.self.inside.packages x.stanza)) got
    ∙ ap Some (sym c.stanza.ensures.value ∙ ap (option_map fields_of) c.unwrap-2.ensures)
