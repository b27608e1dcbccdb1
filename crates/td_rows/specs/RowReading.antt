-- How a row line is read. This project's own.
use Rattle.std.specs.Prelude.{ℕ, List, Option, Some}
use Rattle.td_text.specs.Limits.{max_rebuild}
use Rattle.td_rows.specs.Limits.{max_priority}
use Rattle.td_text.specs.Chain.{◌>>=◌}
use Rattle.td_text.specs.Cut.{cut, part}
use Rattle.td_text.specs.Numbers.{number_at, signed_at}
use Rattle.td_rows.specs.declared.key.Key.{Key}
use Rattle.td_rows.specs.declared.row.Row.{Row}
use Rattle.td_rows.specs.KeyText.{key_at}
use Rattle.td_rows.specs.StateWord.{state_at}
use Rattle.td_rows.specs.Notes.{notes_at}

-- the key and the row whose line it is
unfoldable pub row_line_at : List ℕ → Option (Key × Row)
row_line_at line = do
  a ← cut 32 line
  key ← key_at a.0
  b ← cut 32 a.1
  state ← state_at b.0
  d ← cut 32 b.1
  priority ← signed_at max_priority d.0
  number ← number_at max_rebuild (part 32 d.1).0
  texts ← notes_at (part 32 d.1).1
  Some (
    key,
    record {
      state = state;
      priority = priority;
      number = number;
      dep_wait = texts.1;
      extra = texts.0;
    },
  )
