-- `Archive::opening_rows_of`: its clause.
use Rattle.std.proofs.Common.{subst}
use Rattle.td_relation.specs.Table.{IsApart}
use Rattle.td_indices.specs.Archive.{Contents}
use Rattle.td_indices.specs.Choosing.{flagged}
use Rattle.td_indices.specs.Counting.{Apart}
use Rattle.td_indices.specs.Sources.{same_source, sources_of}
use Rattle.td_indices.proofs.CountingLaws.{greatest_sources}
use Rattle.td_indices.proofs.OpeningTables.{rows_opened_of}
use Rattle.td_indices.proofs.archive.Archive.opening_rows_of.Goals as goal

pub returns : goal.returns
returns c =
    let a = c.args.self.now in
    let apart =
    subst (λ (v : Contents). IsApart v.table) c.self.view_is c.self.inside.archs.now.apart in
    let names = subst (λ (v : Contents). Apart same_source v.sources) c.self.view_is
    (greatest_sources c.self.inside.source_stanzas (sources_of c.self.inside.sources.entries)
    c.self.invariant.3).2.apart in
    rows_opened_of a (flagged c.args.flags.now a.sources) c.sorted_rows.result apart names
    c.sorted_rows.ensures.rising c.sorted_rows.ensures.rows
