-- `Archive::opening_rows`: its clauses.
use Rattle.std.proofs.Common.{◌≡◌, Ok, subst}
use Rattle.td_relation.specs.Table.{IsApart}
use Rattle.td_rows.specs.Table.{row_of}
use Rattle.td_indices.specs.Archive.{Contents}
use Rattle.td_indices.specs.Counting.{Apart}
use Rattle.td_indices.specs.Reading.{sources_at}
use Rattle.td_indices.specs.Sources.{same_source, sources_of}
use Rattle.td_indices.proofs.CountingLaws.{greatest_sources}
use Rattle.td_indices.proofs.OpeningCounts.{counted_rows}
use Rattle.td_indices.proofs.OpeningRows.{rows_opened}
use Rattle.td_indices.proofs.OpeningLaws.{free_rows, known_rows}
use Rattle.td_indices.proofs.archive.Archive.opening_rows.Goals as goal

pub returns-clause-rows : goal.returns-clause-rows
returns-clause-rows c =
    rows_opened row_of c.args.self.now c.sorted_rows.result c.sorted_rows.ensures.rows

pub returns-clause-count : goal.returns-clause-count
returns-clause-count c =
    let apart =
    subst (λ (v : Contents). IsApart v.table) c.self.view_is c.self.inside.archs.now.apart in
    let names = subst (λ (v : Contents). Apart same_source v.sources) c.self.view_is
    (greatest_sources c.self.inside.source_stanzas (sources_of c.self.inside.sources.entries)
    c.self.invariant.3).2.apart in
    counted_rows c.args.self.now c.sorted_rows.result apart names c.sorted_rows.ensures.rising
    (rows_opened row_of c.args.self.now c.sorted_rows.result c.sorted_rows.ensures.rows)

pub returns-clause-free : goal.returns-clause-free
returns-clause-free c =
    free_rows row_of c.args.self.now c.sorted_rows.result (rows_opened row_of c.args.self.now c.sorted_rows.result c.sorted_rows.ensures.rows)

pub returns-clause-known : goal.returns-clause-known
returns-clause-known c =
    let kept = subst (λ (v : Contents). sources_at v.source_stanzas ≡ Ok v.sources) c.self.view_is
    c.self.invariant.3 in
    known_rows row_of c.args.self.now c.sorted_rows.result kept (rows_opened row_of c.args.self.now c.sorted_rows.result c.sorted_rows.ensures.rows)
