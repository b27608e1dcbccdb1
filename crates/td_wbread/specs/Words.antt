-- The words of a line, quoted as in a shell but without escapes. This project's own.
use Rattle.std.specs.Prelude.{ℕ, ◌==◌, ◌||◌, ◌+◌, not, Bool, true, false, List, [], ◌∷◌, ◌++◌}
use Rattle.std.specs.Prelude.{Option, Some, None, length, if◌then◌else◌}
use Rattle.std.specs.List.{list_any, flat_map, slice_split}
use Rattle.td_text.specs.Cut.{cut}
use Rattle.td_rows.specs.Text.{has_newline}
use Rattle.td_text.specs.Runs.{is_space}
use Rattle.td_wbread.specs.declared.word.Word.{Word}
use Rattle.td_wbread.specs.declared.word.End.{End}
use Rattle.td_wbread.specs.declared.word.End.TheVariants.{Closed, Open}

-- what a byte of a line is
pub data Mark : Type 0 where
  -- whitespace outside quotes
  gap : Mark
  -- another byte outside quotes
  plain : ℕ → Mark
  -- a quote that begins or ends what is quoted
  quote : Mark
  -- a byte between quotes
  quoted : ℕ → Mark
  -- a quote that the line doesn't close
  unclosed : Mark

-- the two quotes, `"` and `'`
abbrev pub is_quote : ℕ → Bool
is_quote b = (b == 34) || (b == 39)

-- a byte that stands for itself outside quotes
abbrev pub is_plain : ℕ → Bool
is_plain b = not (is_space b || is_quote b)

-- no newline stands before the cut
abbrev pub on_one_line : Option (List ℕ × List ℕ) → Bool
on_one_line None = false
on_one_line (Some p) = not (has_newline p.0)

-- whether the text has the quote again, before a newline
abbrev pub closes : ℕ → List ℕ → Bool
closes q text = on_one_line (cut q text)

-- whitespace, or a byte that stands for itself
abbrev pub bare_mark : ℕ → Mark
bare_mark b = if is_space b then gap else plain b

-- what each byte of a text is, outside quotes or within this one; nothing after a quote that isn't
-- closed is read
unfoldable pub marks : Option ℕ → List ℕ → List Mark
marks None [] = []
marks None (b ∷ text) =
    if is_quote b then (if closes b text then quote ∷ marks (Some b) text else unclosed ∷ [])
    else bare_mark b ∷ marks None text
marks (Some q) [] = []
marks (Some q) (b ∷ text) = if b == q then quote ∷ marks None text
    else quoted b ∷ marks (Some q) text

-- whitespace between words
abbrev pub is_gap : Mark → Bool
is_gap gap = true
is_gap (plain b) = false
is_gap quote = false
is_gap (quoted b) = false
is_gap unclosed = false

-- a quote that isn't closed
abbrev pub is_unclosed : Mark → Bool
is_unclosed gap = false
is_unclosed (plain b) = false
is_unclosed quote = false
is_unclosed (quoted b) = false
is_unclosed unclosed = true

-- a quote, closed or not
abbrev pub is_quote_mark : Mark → Bool
is_quote_mark gap = false
is_quote_mark (plain b) = false
is_quote_mark quote = true
is_quote_mark (quoted b) = false
is_quote_mark unclosed = true

-- what a byte adds to its word: quotes are taken away
abbrev pub letter : Mark → List ℕ
letter gap = []
letter (plain b) = b ∷ []
letter quote = []
letter (quoted b) = b ∷ []
letter unclosed = []

-- the text of a piece
abbrev pub text_of : List Mark → List ℕ
text_of piece = flat_map letter piece

-- no quote stands in a piece
abbrev pub is_bare_piece : List Mark → Bool
is_bare_piece piece = not (list_any is_quote_mark piece)

-- the word that a piece at this place is
abbrev pub word_of : ℕ → List Mark → Word
word_of place piece = record { text = text_of piece; is_bare = is_bare_piece piece; place = place }

-- a piece is a word, unless nothing stands in it, or a quote that isn't closed
abbrev pub words_in : ℕ → List Mark → List Word
words_in place piece = if (length piece == 0) || list_any is_unclosed piece then []
    else word_of place piece ∷ []

-- the words of pieces, of which the first begins at this place, and a gap stands between two
unfoldable pub placed : ℕ → List (List Mark) → List Word
placed place [] = []
placed place (piece ∷ pieces) = words_in place piece ++ placed (place + length piece + 1) pieces

-- the words of a text that begins at this place: the pieces between gaps
abbrev pub words_from : ℕ → List ℕ → List Word
words_from place text = placed place (slice_split is_gap (marks None text))

-- the words of a line
abbrev pub words_of : List ℕ → List Word
words_of line = words_from 0 line

-- the place of the quote that isn't closed, where the first byte has the place given
unfoldable pub open_at : ℕ → List Mark → Option ℕ
open_at place [] = None
open_at place (mark ∷ after) = if is_unclosed mark then Some place else open_at (place + 1) after

-- how a line of this length ends
abbrev pub end_with : ℕ → Option ℕ → End
end_with len None = Closed len
end_with len (Some place) = Open place

-- what comes after the last word of a line: its end, or a quote that isn't closed
abbrev pub end_of : List ℕ → End
end_of line = end_with (length line) (open_at 0 (marks None line))
