-- A text as its pieces between marks, and as its lines, and a reading line by line in which the
-- first fault decides. This project's own.
use Rattle.std.specs.Prelude.{ℕ, ◌+◌, ◌==◌, List, [], ◌∷◌, ◌++◌, Option, Some, None, Result, Ok}
use Rattle.std.specs.Prelude.{Err, length}
use Rattle.std.specs.Borrow.{Bor}
use Rattle.std.specs.List.{slice_split, flat_map}

-- the pieces between the marks
abbrev pub pieces_of : ℕ → List ℕ → List (List ℕ)
pieces_of mark text = slice_split (λ b. b == mark) text

-- the lines, without their newlines: the pieces between the newlines, so that a text which ends in
-- a newline has an empty last one
abbrev pub lines_of : List ℕ → List (List ℕ)
lines_of text = pieces_of 10 text

-- the text of these lines, a newline after each
abbrev pub text_of : List (List ℕ) → List ℕ
text_of lines = flat_map (λ line. line ++ 10 ∷ []) lines

-- the lines without the empty one after a last newline
unfoldable pub ended : List (List ℕ) → List (List ℕ)
ended [] = []
ended ([] ∷ []) = []
ended (line ∷ lines) = line ∷ ended lines

-- a reading goes on from what was read, and a fault stays
abbrev pub on_ok : {A B F : Type 0} → Result A F → (A → Result B F) → Result B F
on_ok (Ok x) f = f x
on_ok (Err e) f = Err e

-- a step takes the number of a line, what was seen before it, and the line, and gives what is seen
-- with it or a fault; over lines, the first fault decides
unfoldable pub over_lines : {S F : Type 0} → (ℕ → S → List ℕ → Result S F) → ℕ → S → List (List ℕ)
    → Result S F
over_lines step number seen [] = Ok seen
over_lines step number seen (line ∷ lines) =
    on_ok (step number seen line) (λ more. over_lines step (number + 1) more lines)

-- the pieces of what is left of a text; None: not even an empty one
abbrev pub pieces_left : ℕ → Option (Bor (List ℕ)) → List (List ℕ)
pieces_left mark None = []
pieces_left mark (Some rest) = pieces_of mark rest.now

-- the text that is left, with the mark before it
abbrev pub text_left : ℕ → Option (Bor (List ℕ)) → List ℕ
text_left mark None = []
text_left mark (Some rest) = mark ∷ rest.now

-- how much is left, one for the piece that an empty text has
abbrev pub left_len : Option (Bor (List ℕ)) → ℕ
left_len None = 0
left_len (Some rest) = length rest.now + 1

-- the lines of what is left of a text
abbrev pub lines_left : Option (Bor (List ℕ)) → List (List ℕ)
lines_left rest = pieces_left 10 rest

-- the text that is left, with the newline before it
abbrev pub left_text : Option (Bor (List ℕ)) → List ℕ
left_text rest = text_left 10 rest
