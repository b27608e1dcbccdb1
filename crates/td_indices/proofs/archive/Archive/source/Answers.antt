-- `Archive::source`: what it answers.
use Rattle.std.proofs.Common.{Some, option_map, sym, ap, ◌∙◌}
use Rattle.td_indices.specs.Archive.{Contents, source_named}
use Rattle.td_indices.specs.Seen.{seen_source, shown_source}
use Rattle.td_indices.proofs.SourceLookups.{found_source, no_source}
use Rattle.td_indices.proofs.archive.Archive.source.Goals as goal

pub returns : goal.returns
returns c =
    ap Some c.of_entry.ensures
    ∙ ap (option_map shown_source)
    (sym (found_source c.args.name.now c.self.inside.sources.entries c.in_ok-name.name.now
    c.in_ok-name.sourced.now (sym c.in_ok-name.ensures.key) (sym c.in_ok-name.ensures.value)))
    ∙ ap (λ (a : Contents). option_map shown_source (source_named a c.args.name.now)) c.self.view_is

pub returns-in_err-name : goal.returns-in_err-name
returns-in_err-name c =
    ap (option_map seen_source) c.from_residual.ensures
    ∙ ap (option_map shown_source)
    (sym (no_source c.args.name.now c.self.inside.sources.entries
    (sym c.in_err-name.ensures.value)))
    ∙ ap (λ (a : Contents). option_map shown_source (source_named a c.args.name.now)) c.self.view_is
