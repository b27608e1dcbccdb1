-- `Archive::has_row`: what it answers, with such a source and without.
use Rattle.std.proofs.Common.{Option, false, sym, ap, ◌∙◌}
use Rattle.std.specs.Prelude.{option_map}
use Rattle.std.specs.Option.{option_map_or}
use Rattle.td_relation.specs.TableView.{table}
use Rattle.td_rows.proofs.Lists.{slice_get-map}
use Rattle.td_indices.specs.Archive.{Contents, has_row_at}
use Rattle.td_indices.specs.Rows.{has_row}
use Rattle.td_indices.specs.Sources.{KeptSource, source_of}
use Rattle.td_indices.proofs.archive.Archive.has_row.Goals as goal

pub returns-in-Some : goal.returns-in-Some
returns-in-Some c =
    c.has_row.ensures
    ∙ sym (ap (λ (o : Option KeptSource). option_map_or (λ s.
    has_row (table c.self.inside.archs.now) s.head.archs c.args.place) o false)
    (slice_get-map source_of c.self.inside.sources.entries c.args.source
    ∙ ap (option_map source_of) (sym c.in-Some.ensures.entry)))
    ∙ ap (λ (a : Contents). has_row_at a c.args.source c.args.place) c.self.view_is

pub returns-in-None : goal.returns-in-None
returns-in-None c =
    sym (ap (λ (o : Option KeptSource). option_map_or (λ s.
    has_row (table c.self.inside.archs.now) s.head.archs c.args.place) o false)
    (slice_get-map source_of c.self.inside.sources.entries c.args.source
    ∙ ap (option_map source_of) (sym c.in-None.ensures.entry)))
    ∙ ap (λ (a : Contents). has_row_at a c.args.source c.args.place) c.self.view_is
