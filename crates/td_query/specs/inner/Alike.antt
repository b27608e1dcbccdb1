-- Patterns that find alike in each text that may be in memory. This project's own.
use Rattle.std.specs.Prelude.{◌≡◌, ℕ, ◌<◌, List, get_or, slice_get}
use Rattle.regex.specs.Patterns.{Re}
use Rattle.td_query.specs.Truth.{is_found}

-- each number of a text is a byte
abbrev pub AreBytes : List ℕ → Type 0
AreBytes text = (place : ℕ) → get_or text place 0 < 256

-- in each text, the patterns of one number in the two lists are both found, or neither is
abbrev pub AreAlike : List Re → List Re → Type 0
AreAlike ps qs = (number : ℕ) (text : List ℕ) → AreBytes text
    → is_found (slice_get ps number) text ≡ is_found (slice_get qs number) text
