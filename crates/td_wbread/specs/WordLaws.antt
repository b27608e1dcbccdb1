-- The words of a line as they may be written: pieces that touch, each of bytes without quotes or
-- between two quotes, and whitespace between words. In the style of a shell, but without escapes:
-- this project's own.
use Rattle.std.specs.Prelude.{◌≡◌, ◌≢◌, ◌↔◌, ℕ, ◌+◌, Bool, true, false, IsTrue, List, [], ◌∷◌, ◌++◌}
use Rattle.std.specs.Prelude.{length}
use Rattle.std.specs.List.{list_all, flat_map, AllByRecursion}
use Rattle.td_text.specs.Cut.{Without}
use Rattle.td_text.specs.Runs.{is_blank}
use Rattle.td_rows.specs.Text.{has_newline}
use Rattle.td_wbread.specs.declared.word.Word.{Word}
use Rattle.td_wbread.specs.declared.word.End.{End}
use Rattle.td_wbread.specs.declared.word.End.TheVariants.{Closed, Open}
use Rattle.td_wbread.specs.Taking.{EndsWord}
use Rattle.td_wbread.specs.Words.{is_plain, is_quote, words_of, end_of}

-- a piece of a word: bytes without quotes, or a text between two of this quote
pub data Piece : Type 0 where
  Bare : List ℕ → Piece
  Quoted : ℕ → List ℕ → Piece

-- a piece without quotes has no whitespace and no quote; one between two quotes, `"` or `'`, has
-- neither that quote nor a newline
abbrev pub PieceFits : Piece → Type 0
PieceFits (Bare text) = IsTrue (list_all is_plain text)
PieceFits (Quoted q text) = IsTrue (is_quote q) × Without q text × (has_newline text ≡ false)

-- how a piece is written
abbrev pub piece_text : Piece → List ℕ
piece_text (Bare text) = text
piece_text (Quoted q text) = q ∷ (text ++ q ∷ [])

-- what a piece says: its quotes are taken away
abbrev pub piece_says : Piece → List ℕ
piece_says (Bare text) = text
piece_says (Quoted q text) = text

-- a piece without quotes
abbrev pub is_unquoted : Piece → Bool
is_unquoted (Bare text) = true
is_unquoted (Quoted q text) = false

-- pieces that touch, as they are written
abbrev pub written : List Piece → List ℕ
written pieces = flat_map piece_text pieces

-- The text, which begins at this place of its line, is whitespace, this word, and the rest:
-- nothing, or whitespace and more. The word's place is that of its first piece.
pub record IsFirstWord (place : ℕ) (text : List ℕ) (word : Word) (rest : List ℕ) : Type 0 where
  pub space : List ℕ
  pub pieces : List Piece
  pub joined : text ≡ space ++ (written pieces ++ rest)
  pub blank : IsTrue (is_blank space)
  pub fits : AllByRecursion PieceFits pieces
  pub filled : written pieces ≢ []
  pub ends : EndsWord rest
  pub says : word.text ≡ flat_map piece_says pieces
  pub bare : word.is_bare ≡ list_all is_unquoted pieces
  pub stands : word.place ≡ place + length space

-- the quote doesn't come again in the text, or not before a newline
abbrev pub StaysOpen : ℕ → List ℕ → Type 0
StaysOpen q text = (inside after : List ℕ) → text ≡ inside ++ q ∷ after → Without q inside
    → has_newline inside ≡ true

-- The text is whitespace, pieces of a word or none, and then a quote that isn't closed.
pub record EndsOpen (place : ℕ) (text : List ℕ) (quote_place : ℕ) : Type 0 where
  pub space : List ℕ
  pub pieces : List Piece
  pub q : ℕ
  pub inside : List ℕ
  pub joined : text ≡ space ++ (written pieces ++ q ∷ inside)
  pub blank : IsTrue (is_blank space)
  pub fits : AllByRecursion PieceFits pieces
  pub opens : IsTrue (is_quote q)
  pub stays : StaysOpen q inside
  pub stands : quote_place ≡ place + length space + length (written pieces)

-- what may follow the last word: whitespace up to the line's end, or a quote that isn't closed; the
-- text begins at this place of its line
abbrev pub EndsLine : ℕ → End → List ℕ → Type 0
EndsLine place (Closed len) text = IsTrue (is_blank text) × (len ≡ place + length text)
EndsLine place (Open quote_place) text = EndsOpen place text quote_place

-- the text, which begins at this place of its line, is these words and this end
abbrev pub AreWords : ℕ → List Word → End → List ℕ → Type 0
AreWords place [] end text = EndsLine place end text
AreWords place (word ∷ words) end text =
    (rest : List ℕ) × (first : IsFirstWord place text word rest)
    × AreWords (word.place + length (written first.pieces)) words end rest

-- a line has these words and this end if and only if it is written so
abbrev pub WordsAreExact : Type 0
WordsAreExact = (line : List ℕ) (words : List Word) (end : End)
    → ((words_of line ≡ words) × (end_of line ≡ end)) ↔ AreWords 0 words end line
