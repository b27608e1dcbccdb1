-- Which line of a state file has a row that other rows haven't. This project's own.
use Rattle.std.specs.Prelude.{◌≡◌, ℕ, ◌+◌, List, ◌∷◌, ◌++◌, None, length}
use Rattle.std.specs.List.{AllByRecursion}
use Rattle.td_rows.specs.RowLine.{row_line, RowFits}
use Rattle.td_rows.specs.Table.{Table, row_of}
use Rattle.td_rows.specs.declared.key.Key.{Key}
use Rattle.td_rows.specs.declared.row.Row.{Row}

-- the line is that of a row whose key has no row among these
pub record LacksRow (opened : Table) (line : List ℕ) : Type 0 where
  pub row : Key × Row
  pub spelled : line ≡ row_line row
  pub fits : RowFits row
  pub missing : row_of opened row.0 ≡ None

-- the first line that lacks its row has this number, from 1 on
pub record IsFirstLacking (opened : Table) (lines : List (List ℕ)) (number : ℕ) : Type 0 where
  pub before : List (List ℕ)
  pub line : List ℕ
  pub after : List (List ℕ)
  pub parts : lines ≡ before ++ line ∷ after
  pub numbered : number ≡ 1 + length before
  pub lacks : LacksRow opened line
  pub others : AllByRecursion (λ l. ¬ (LacksRow opened l)) before
