-- Pieces of a line, by a place in it. This project's own.
use Rattle.std.specs.Prelude.{ℕ, ◌&&◌, ◌==◌, Bool, not, List, [], ◌∷◌, Some, None, length, take}
use Rattle.std.specs.Prelude.{drop}
use Rattle.std.specs.Prelude.{if◌then◌else◌}
use Rattle.std.specs.List.{list_any}
use Rattle.std.specs.Str.{is_utf8}
use Rattle.td_text.specs.Cut.{part, strip}
use Rattle.td_text.specs.Runs.{is_space, run}
use Rattle.td_script.specs.Reading.{is_word_byte}

-- the line from a place on; all of it if the place is within a character
abbrev pub rest_at : ℕ → List ℕ → List ℕ
rest_at place line = if is_utf8 (drop place line) then drop place line else line

-- the line before a place; all of it if the place is within a character
abbrev pub before : ℕ → List ℕ → List ℕ
before place line = if is_utf8 (take place line) then take place line else line

-- the first piece of a text: what its first quotes have, up to its end if they aren't closed, or
-- what is before the first whitespace
abbrev pub piece : List ℕ → List ℕ
piece text =
    elim (strip (34 ∷ []) text) [
      | Some inside ↦ (part 34 inside).0
      | None ↦ elim (strip (39 ∷ []) text) [
        | Some inside ↦ (part 39 inside).0
        | None ↦ run is_word_byte text
      ]
    ]

-- the word of a line at a place, or its first piece
abbrev pub word_at : ℕ → List ℕ → List ℕ
word_at place line = piece (rest_at place line)

-- a text is something, and has no whitespace
abbrev pub is_one_word : List ℕ → Bool
is_one_word text = not (length text == 0) && not (list_any is_space text)
