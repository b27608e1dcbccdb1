-- `Archive::stanza_of_source`: the clause `there` and the call of `unwrap`.
use Rattle.std.proofs.Common.{◌≡◌, ℕ, List, Bor, Some, option_map, slice_get, sym, ap, ◌∙◌}
use Rattle.std.specs.Map.Iter.{deref_pair}
use Rattle.td_rows.proofs.Lists.{slice_get-map}
use Rattle.td_stanza.specs.Table.{fields_of}
use Rattle.td_indices.specs.declared.sourced.Sourced.{Sourced}
use Rattle.td_indices.specs.Archive.{Contents}
use Rattle.td_indices.specs.Sources.{KeptSource, source_of, sources_of}
use Rattle.td_indices.proofs.KeptStanzas.{mapped, source_kept}
use Rattle.td_indices.proofs.archive.Archive.stanza_of_source.Goals as goal

pub unwrap-requires-2 : goal.unwrap-requires-2
unwrap-requires-2 c =
    let es = c.self.inside.sources.entries in
    let p : Bor (List ℕ) × Sourced = (c.unwrap.result.0.now, c.unwrap.result.1.now) in
    let at : slice_get es c.args.source ≡ Some p =
    sym c.get_index.ensures.entry ∙ ap (option_map deref_pair) c.unwrap.ensures in
    let got : slice_get (sources_of es) c.args.source ≡ Some (source_of p) =
    slice_get-map source_of es c.args.source ∙ ap (option_map source_of) at in
    let its = source_kept c.self.inside.source_stanzas (sources_of es) c.args.source
    (source_of p) c.self.invariant.3 got in
    mapped fields_of c.stanza.result its.fields (c.stanza.ensures.value ∙ its.there)

pub returns-clause-there : goal.returns-clause-there
returns-clause-there c =
    let es = c.self.inside.sources.entries in
    let p : Bor (List ℕ) × Sourced = (c.unwrap.result.0.now, c.unwrap.result.1.now) in
    let at : slice_get es c.args.source ≡ Some p =
    sym c.get_index.ensures.entry ∙ ap (option_map deref_pair) c.unwrap.ensures in
    let got : slice_get (sources_of es) c.args.source ≡ Some (source_of p) =
    slice_get-map source_of es c.args.source ∙ ap (option_map source_of) at in
    sym (ap (λ (a : Contents).
    option_map (λ (x : KeptSource). slice_get a.source_stanzas x.stanza)
    (slice_get a.sources c.args.source)) c.self.view_is)
    ∙ ap (option_map (λ (x : KeptSource). slice_get c.self.inside.source_stanzas x.stanza)) got
    ∙ ap Some (sym c.stanza.ensures.value ∙ ap (option_map fields_of) c.unwrap-2.ensures)
