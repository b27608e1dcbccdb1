-- `Archive::source_at`: what it answers where there is such a source.
use Rattle.std.proofs.Common.{Some, option_map, ap, ◌∙◌}
use Rattle.td_text.specs.Words.{is_name}
use Rattle.td_indices.specs.Seen.{SourceSeen, shown_source}
use Rattle.td_indices.proofs.archive.Archive.source_at.Goals as goal

pub returns-clause-found : goal.returns-clause-found
returns-clause-found c =
    ap Some c.of_entry.ensures ∙ ap (option_map shown_source) c.in_ok-name.ensures.found

pub returns-clause-legal : goal.returns-clause-legal
returns-clause-legal c =
    ap (λ (s : SourceSeen). is_name s.head.name) c.of_entry.ensures ∙ c.in_ok-name.ensures.legal
