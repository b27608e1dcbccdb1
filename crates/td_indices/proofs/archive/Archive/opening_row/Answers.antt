-- `Archive::opening_row`: what it answers.
use Rattle.std.proofs.Common.{◌≡◌, None, Some, sym, ap, ◌∙◌}
use Rattle.td_relation.specs.TableView.{table}
use Rattle.td_relation.specs.Table.{place_of}
use Rattle.td_indices.specs.Archive.{Contents, source_named}
use Rattle.td_indices.specs.Kept.{binaries_of}
use Rattle.td_indices.specs.Opening.{opening_row}
use Rattle.td_indices.specs.Sources.{KeptSource, source_of, sources_of}
use Rattle.td_indices.proofs.SourceLookups.{found_source, no_source}
use Rattle.td_indices.proofs.Greatest.{no_row, row_found}
use Rattle.td_indices.proofs.archive.Archive.opening_row.Goals as goal

pub returns-in_default : goal.returns-in_default
returns-in_default c =
    let a : Contents = record {
      table = table c.self.inside.archs.now;
      packages = c.self.inside.packages;
      source_stanzas = c.self.inside.source_stanzas;
      binaries = binaries_of c.self.inside.binaries;
      sources = sources_of c.self.inside.sources.entries;
    } in
    let gone : source_named a c.args.key.now.source ≡ None =
    ap (source_named a) (sym c.source.ensures.text)
    ∙ no_source c.source.result.now c.self.inside.sources.entries
    (sym c.in_default.ensures.value) in
    no_row a c.args.key.now gone
    ∙ ap (λ (b : Contents). opening_row b c.args.key.now) c.self.view_is

pub returns : goal.returns
returns c =
    let a : Contents = record {
      table = table c.self.inside.archs.now;
      packages = c.self.inside.packages;
      source_stanzas = c.self.inside.source_stanzas;
      binaries = binaries_of c.self.inside.binaries;
      sources = sources_of c.self.inside.sources.entries;
    } in
    let s : KeptSource = source_of (c.in-Some.name.now, c.in-Some.sourced.now) in
    let here : source_named a c.args.key.now.source ≡ Some s =
    ap (source_named a) (sym c.source.ensures.text)
    ∙ found_source c.source.result.now c.self.inside.sources.entries c.in-Some.name.now
    c.in-Some.sourced.now (sym c.in-Some.ensures.key) (sym c.in-Some.ensures.value) in
    let at : place_of a.table c.args.key.now.arch ≡ Some c.in-Some-index.place =
    ap (place_of a.table) (sym c.arch.ensures.text) ∙ sym c.in-Some-index.ensures in
    c.opening_on.ensures
    ∙ row_found a c.args.key.now s c.of-numbers.result.now c.in-Some-index.place here at
    (c.of-numbers.ensures ∙ c.self.invariant.0 c.in-Some.name.now.now)
    ∙ ap (λ (b : Contents). opening_row b c.args.key.now) c.self.view_is
