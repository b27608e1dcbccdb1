-- State files: the lines of opening rows. This project's own.
use Rattle.std.specs.Prelude.{◌≡◌, ◌≢◌, ℕ, ◌+◌, ◌≤◌, List, [], ◌∷◌, ◌++◌, Bool, true, false, map}
use Rattle.std.specs.Prelude.{length}
use Rattle.std.specs.List.{filter, AllByRecursion}
use Rattle.td_rows.specs.Limits.{max_rows}
use Rattle.td_rows.specs.declared.key.Key.{Key}
use Rattle.td_rows.specs.declared.row.Row.{Row}
use Rattle.td_rows.specs.declared.state_file.StateFault.{StateFault}
use Rattle.td_rows.specs.declared.state_file.StateFault.TheVariants.{BadLine, Twice, NotOpening}
use Rattle.td_rows.specs.declared.state_file.StateFault.TheVariants.{TooManyRows, NoMemory}
use Rattle.td_rows.specs.Keys.{names, ascending}
use Rattle.td_rows.specs.States.{is_building}
use Rattle.td_rows.specs.Table.{Table, keys_of, row_of}
use Rattle.td_rows.specs.RowLine.{row_line, RowFits}

-- empty lines are skipped
abbrev pub is_filled : List ℕ → Bool
is_filled [] = false
is_filled (x ∷ line) = true

-- a row with which the desk may open: no builder has it
pub record Opens (p : Key × Row) : Type 0 where
  pub fits : RowFits p
  pub free : is_building p.1.state ≡ false

-- no row has the key of an earlier one, nor of the rows seen
abbrev pub Fresh : Table → Table → Type 0
Fresh seen [] = Unit {0}
Fresh seen (p ∷ rows) = (names (keys_of seen) p.0 ≡ false) × Fresh (seen ++ p ∷ []) rows

-- the lines that aren't empty are those of these rows, in this order, after the rows seen
pub record AreLinesOf (seen rows : Table) (lines : List (List ℕ)) : Type 0 where
  pub spelled : filter is_filled lines ≡ map row_line rows
  pub opening : AllByRecursion Opens rows
  pub fresh : Fresh seen rows
  pub limited : length (seen ++ rows) ≤ max_rows

-- the lines of a state file, whose rows are t: the same ones, in the order of their keys
pub record IsStateFile (lines : List (List ℕ)) (t : Table) : Type 0 where
  pub rows : Table
  pub written : AreLinesOf [] rows lines
  pub same : (k : Key) → row_of t k ≡ row_of rows k
  pub rising : ascending (keys_of t) ≡ true

-- the line is that of a row whose key none of the rows seen has
pub record IsFreshLine (seen : Table) (line : List ℕ) : Type 0 where
  pub row : Key × Row
  pub spelled : line ≡ row_line row
  pub fits : RowFits row
  pub fresh : names (keys_of seen) row.0 ≡ false

-- the line is that of a row whose key one of the rows seen has
pub record IsRepeatedLine (seen : Table) (line : List ℕ) : Type 0 where
  pub row : Key × Row
  pub spelled : line ≡ row_line row
  pub fits : RowFits row
  pub repeated : names (keys_of seen) row.0 ≡ true

-- what is wrong with a filled line that has this number, after the rows seen
abbrev pub IsFaulty : Table → ℕ → List ℕ → StateFault → Type 0
IsFaulty seen number line (BadLine n) = (n ≡ number)
    × ((p : Key × Row) → RowFits p → line ≢ row_line p)
IsFaulty seen number line (Twice n) = (n ≡ number) × IsRepeatedLine seen line
IsFaulty seen number line (NotOpening n) = (n ≡ number)
    × ((f : IsFreshLine seen line) × (is_building f.row.1.state ≡ true))
IsFaulty seen number line TooManyRows = (f : IsFreshLine seen line)
    × (is_building f.row.1.state ≡ false) × (length seen ≡ max_rows)
IsFaulty seen number line NoMemory = ⊥

-- the first line with a fault: those before it are lines of opening rows
pub record IsFirstFault (lines : List (List ℕ)) (e : StateFault) : Type 0 where
  pub before : List (List ℕ)
  pub line : List ℕ
  pub after : List (List ℕ)
  pub parts : lines ≡ before ++ line ∷ after
  pub seen : Table
  pub fine : AreLinesOf [] seen before
  pub filled : is_filled line ≡ true
  pub faulty : IsFaulty seen (1 + length before) line e

-- a fault is that of the first faulty line; `NoMemory` may be the answer for any lines
abbrev pub FaultOf : List (List ℕ) → StateFault → Type 0
FaultOf lines NoMemory = Unit {0}
FaultOf lines e = IsFirstFault lines e
