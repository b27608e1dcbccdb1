-- `Archive::entry_at`: what it answers where there is such a source.
use Rattle.std.proofs.Common.{slice_get, sym, ap, ◌∙◌}
use Rattle.std.specs.Prelude.{option_map}
use Rattle.td_rows.proofs.Lists.{slice_get-map}
use Rattle.td_indices.specs.Archive.{Contents, source_named}
use Rattle.td_indices.specs.Sources.{source_of}
use Rattle.td_indices.proofs.LegalNames.{legal_at}
use Rattle.td_indices.proofs.SourceLookups.{own_source}
use Rattle.td_indices.proofs.archive.Archive.entry_at.Goals as goal

pub returns-clause-found : goal.returns-clause-found
returns-clause-found c =
    let es = c.self.inside.sources.entries in
    sym (slice_get-map source_of es c.args.number
    ∙ ap (option_map source_of) (sym c.in_ok-name.ensures.entry))
    ∙ ap (λ (a : Contents). slice_get a.sources c.args.number) c.self.view_is

pub returns-clause-named : goal.returns-clause-named
returns-clause-named c =
    sym (ap (λ (a : Contents). source_named a c.in_ok-name.name.now.now) c.self.view_is)
    ∙ own_source c.in_ok-name.name.now c.self.inside.sources.entries c.in_ok-name.sourced.now
    c.in_ok-name.ensures.value

pub returns-clause-legal : goal.returns-clause-legal
returns-clause-legal c =
    legal_at c.self.inside.source_stanzas c.self.inside.sources.entries c.args.number
    (c.in_ok-name.name.now, c.in_ok-name.sourced.now) c.self.invariant.3
    (sym c.in_ok-name.ensures.entry)
