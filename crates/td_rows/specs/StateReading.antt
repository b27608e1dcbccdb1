-- How a state file is read: line by line, the first fault decides. This project's own.
use Rattle.std.specs.Prelude.{◌≡◌, ℕ, ◌==◌, List, [], ◌∷◌, ◌++◌, Option, Some, None, Result, Ok}
use Rattle.std.specs.Prelude.{Err, length, if◌then◌else◌}
use Rattle.td_rows.specs.Limits.{max_rows}
use Rattle.td_text.specs.Lines.{lines_of, over_lines}
use Rattle.td_rows.specs.declared.key.Key.{Key}
use Rattle.td_rows.specs.declared.row.Row.{Row}
use Rattle.td_rows.specs.declared.state_file.StateFault.{StateFault}
use Rattle.td_rows.specs.declared.state_file.StateFault.TheVariants.{BadLine, Twice, NotOpening}
use Rattle.td_rows.specs.declared.state_file.StateFault.TheVariants.{TooManyRows, NoMemory}
use Rattle.td_rows.specs.Keys.{names}
use Rattle.td_rows.specs.States.{is_building}
use Rattle.td_rows.specs.Table.{Table, keys_of}
use Rattle.td_rows.specs.RowReading.{row_line_at}

-- the rows seen and the row of a line, if it is one
abbrev pub add_row : ℕ → Table → Option (Key × Row) → Result Table StateFault
add_row number seen None = Err (BadLine number)
add_row number seen (Some p) =
    if names (keys_of seen) p.0 then Err (Twice number)
    else (if is_building p.1.state then Err (NotOpening number)
    else (if length seen == max_rows then Err TooManyRows else Ok (seen ++ p ∷ [])))

-- the rows seen with a line
abbrev pub state_step : ℕ → Table → List ℕ → Result Table StateFault
state_step number seen line = if length line == 0 then Ok seen
    else add_row number seen (row_line_at line)

-- the rows of a text, in the order of its lines
abbrev pub state_rows : List ℕ → Result Table StateFault
state_rows text = over_lines state_step 1 [] (lines_of text)

-- a fault is the reading's; `NoMemory` may be the answer for any reading
abbrev pub Fails : StateFault → Result Table StateFault → Type 0
Fails NoMemory read = Unit {0}
Fails (BadLine n) read = read ≡ Err (BadLine n)
Fails (Twice n) read = read ≡ Err (Twice n)
Fails (NotOpening n) read = read ≡ Err (NotOpening n)
Fails TooManyRows read = read ≡ Err TooManyRows
