-- How rows are written, and which of them make a state file. This project's own.
use Rattle.std.specs.Prelude.{◌≡◌, ℕ, ◌≤◌, List, true, false, map, length}
use Rattle.std.specs.List.{AllByRecursion}
use Rattle.td_rows.specs.Limits.{max_rows}
use Rattle.td_text.specs.Lines.{lines_of, text_of}
use Rattle.td_rows.specs.declared.key.Key.{Key}
use Rattle.td_rows.specs.declared.row.Row.{Row}
use Rattle.td_rows.specs.Text.{has_newline}
use Rattle.td_rows.specs.Keys.{ascending}
use Rattle.td_rows.specs.Table.{Table, keys_of}
use Rattle.td_rows.specs.RowLine.{row_line}
use Rattle.td_rows.specs.StateFile.{Opens, IsStateFile}

-- a line for each row, in the order of the keys
abbrev pub state_text : Table → List ℕ
state_text t = text_of (map row_line t)

-- a row with which the desk may open, each of whose texts is a line
pub record OpensInLines (p : Key × Row) : Type 0 where
  pub opens : Opens p
  pub extra : has_newline p.1.extra ≡ false
  pub dep_wait : has_newline p.1.dep_wait ≡ false

-- rows with which the desk may open
pub record IsOpening (t : Table) : Type 0 where
  pub rising : ascending (keys_of t) ≡ true
  pub limited : length t ≤ max_rows
  pub rows : AllByRecursion OpensInLines t

-- what is written of opening rows is a state file, whose rows they are
abbrev pub ReadAgain : Type 0
ReadAgain = (t : Table) → IsOpening t → IsStateFile (lines_of (state_text t)) t
