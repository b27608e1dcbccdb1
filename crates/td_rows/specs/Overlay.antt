-- Rows that are put over others. This project's own.
use Rattle.std.specs.Prelude.{Option, is_none, unwrap_or, find}
use Rattle.td_rows.specs.declared.key.Key.{Key}
use Rattle.td_rows.specs.Table.{Table, row_of, keys_of, each_row}

-- the first key of the others that has no row
abbrev pub first_missing : Table → Table → Option Key
first_missing t others = find (λ k. is_none (row_of t k)) (keys_of others)

-- the rows, each replaced by the others' row of its key, if they have one
abbrev pub overlaid : Table → Table → Table
overlaid others t = each_row (λ k row. unwrap_or (row_of others k) row) t
