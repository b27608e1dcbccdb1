-- The line that stands for a row. This project's own.
use Rattle.std.specs.Prelude.{ℕ, ◌≤◌, List, ◌∷◌, ◌++◌, decimal}
use Rattle.std.specs.Fmt.{signed_decimal}
use Rattle.td_text.specs.Limits.{max_rebuild}
use Rattle.td_rows.specs.Limits.{max_priority}
use Rattle.td_text.specs.Numbers.{IsWithin}
use Rattle.td_rows.specs.declared.key.Key.{Key}
use Rattle.td_rows.specs.declared.row.Row.{Row}
use Rattle.td_rows.specs.KeyText.{key_text, KeyFits}
use Rattle.td_rows.specs.StateWord.{state_word, StateFits}
use Rattle.td_rows.specs.Notes.{notes, NotesFit}

-- what a row's line says of it after its key
abbrev pub row_words : Row → List ℕ
row_words row = state_word row.state ++ 32 ∷
    (signed_decimal row.priority ++ 32 ∷ (decimal row.number ++ notes (row.extra, row.dep_wait)))

-- the key, the state, the priority, the rebuild number and the texts
abbrev pub row_line : Key × Row → List ℕ
row_line p = key_text p.0 ++ 32 ∷ row_words p.1

-- a row that can be written
pub record RowFits (p : Key × Row) : Type 0 where
  pub key : KeyFits p.0
  pub state : StateFits p.1.state
  pub priority : IsWithin max_priority p.1.priority
  pub number : p.1.number ≤ max_rebuild
  pub texts : NotesFit (p.1.extra, p.1.dep_wait)
