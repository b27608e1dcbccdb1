-- What contracts see of a key, and where it lies in the one text that holds it. This project's own.
use Rattle.std.specs.Prelude.{◌≡◌, ℕ, ◌+◌, ◌<◌, false, List, length, slice_index, take, drop}
use Rattle.td_rows.specs.Text.{has_newline}

-- the source and the architecture, as bytes
pub record KeyModel : Type 0 where
  pub source : List ℕ
  pub arch : List ℕ

-- what comes before the slash at a place, and what comes after it
abbrev pub key_in : List ℕ → ℕ → KeyModel
key_in text slash = record { source = take slash text; arch = drop (slash + 1) text }

-- a slash stands at the place, and a newline nowhere
pub record IsKeyText (text : List ℕ) (slash : ℕ) : Type 0 where
  pub within : slash < length text
  pub parted : slice_index text slash ≡ 47
  pub one_line : has_newline text ≡ false
