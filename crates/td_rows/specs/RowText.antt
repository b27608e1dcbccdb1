-- A row as slices of the line that it was read from. This project's own.
use Rattle.td_rows.specs.declared.key.Key.{Key}
use Rattle.td_rows.specs.declared.row.Row.{Row}
use Rattle.td_rows.specs.declared.row_line.RowText.{RowText}

-- the key and the row, without where their texts lie in memory
abbrev pub row_of_text : RowText → Key × Row
row_of_text r = (
  record { source = r.source.now; arch = r.arch.now },
  record {
    state = r.state;
    priority = r.priority;
    number = r.number;
    dep_wait = r.dep_wait.now;
    extra = r.extra.now;
  },
)
