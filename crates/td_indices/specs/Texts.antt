-- A text in pieces between whitespace, and what is left of it. This project's own.
use Rattle.std.specs.Prelude.{ℕ, ◌+◌, List, [], Option, Some, None, length}
use Rattle.std.specs.Borrow.{Bor}
use Rattle.std.specs.List.{slice_split}
use Rattle.td_text.specs.Runs.{is_space}

-- the pieces of what is left of a text; None: not even an empty one
abbrev pub words_left : Option (Bor (List ℕ)) → List (List ℕ)
words_left None = []
words_left (Some rest) = slice_split is_space rest.now

-- how much is left, one for the piece that an empty text has
abbrev pub left_len : Option (Bor (List ℕ)) → ℕ
left_len None = 0
left_len (Some rest) = length rest.now + 1
