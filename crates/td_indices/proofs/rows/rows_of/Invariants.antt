-- What the loop of `rows_of` keeps.
use Rattle.std.proofs.Common.{◌≡◌, ◌≤◌}
use Rattle.td_relation.specs.TableView.{table}
use Rattle.td_indices.specs.Rows.{rows_before}
use Rattle.td_indices.proofs.rows.rows_of.Given as goal

-- the rows before the place
abbrev pub invariant-loop-place : goal.invariant-loop-place
invariant-loop-place l = record {
  counted : l.count ≡ rows_before (table l.archs) l.words l.place;
  few : l.count ≤ l.place;
}
