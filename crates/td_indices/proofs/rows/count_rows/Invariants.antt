-- What the loop of `count_rows` keeps.
use Rattle.std.proofs.Common.{◌≡◌, ◌+◌, ◌≤◌, drop}
use Rattle.td_relation.specs.TableView.{table}
use Rattle.td_indices.specs.Rows.{row_count}
use Rattle.td_indices.specs.Sources.{sources_of}
use Rattle.td_indices.proofs.rows.count_rows.Given as goal

-- the rows so far, and those of the sources that are left
abbrev pub invariant-loop-number : goal.invariant-loop-number
invariant-loop-number l = record {
  counted : l.rows + row_count (table l.archs) (drop l.number (sources_of l.sources.entries))
      ≡ row_count (table l.archs) (sources_of l.sources.entries);
  few : l.rows ≤ 1048576;
}
