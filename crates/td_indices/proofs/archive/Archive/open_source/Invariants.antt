-- What the loop of `Archive::open_source` keeps.
use Rattle.std.proofs.Common.{◌≡◌, ◌+◌, ◌≤◌, ◌&&◌, length}
use Rattle.std.specs.Str.{bytes_eq}
use Rattle.td_rows.specs.declared.key.Key.{Key}
use Rattle.td_rows.specs.Table.{row_of}
use Rattle.td_indices.specs.Opening.{opening_row}
use Rattle.td_indices.specs.OpeningRows.{has_row_before, with_opening}
use Rattle.td_indices.specs.Rows.{rows_before}
use Rattle.td_indices.proofs.archive.Archive.open_source.Given as goal

-- the rows before the place
abbrev pub invariant-loop-place : goal.invariant-loop-place
invariant-loop-place l = record {
  opened : (k : Key) → row_of l.rows.entries k
      ≡ with_opening (bytes_eq k.source l.name
      && has_row_before l.self.table l.sourced.archs.now l.place k.arch) (opening_row l.self k)
      (row_of l.fn.rows.entries k);
  few : length l.rows.entries
      ≤ length l.fn.rows.entries + rows_before l.self.table l.sourced.archs.now l.place;
}
