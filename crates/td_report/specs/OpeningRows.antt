-- The rows that stand for all with which a desk opens. This project's own.
use Rattle.std.specs.Prelude.{◌≡◌, ℕ, true, List, Option}
use Rattle.td_rows.specs.declared.key.Key.{Key}
use Rattle.td_rows.specs.Keys.{ascending}
use Rattle.td_rows.specs.Table.{Table, keys_of, row_of}
use Rattle.td_indices.specs.Opening.{opening_row}
use Rattle.td_waves.specs.declared.level.Level.{Level}
use Rattle.td_report.specs.Transition.{affected_rows}
use Rattle.td_report.specs.TransitionView.{contents_of, tracking_of}
use Rattle.td_report.specs.declared.transition.Transition.{Transition}

-- these rows have just the affected rows that all opening rows have, whatever their levels are
pub record StandForAll (x : Transition) (rows : Table) : Type 0 where
  pub all : Table
  pub opened : (k : Key) → row_of all k ≡ opening_row (contents_of x) k
  pub rising : ascending (keys_of all) ≡ true
  pub same : (level : List ℕ → Option Level)
      → affected_rows (contents_of x) (tracking_of x) level rows
      ≡ affected_rows (contents_of x) (tracking_of x) level all
