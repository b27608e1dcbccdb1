-- Where the places of a text are, in words of its lines and of its stanzas: the line that is meant
-- follows others, and what these are decides which place it is. This project's own.
use Rattle.std.specs.Prelude.{◌≡◌, ◌↔◌, ◌<◌, ◌≤◌, ℕ, ◌+◌, List, ◌∷◌, ◌++◌, Some, None, length}
use Rattle.td_text.specs.Lines.{lines_of, text_of}
use Rattle.td_stanza.specs.Field.{Entry}
use Rattle.td_stanza.specs.StanzaGrammar.{IsStanza, AreStanzas}
use Rattle.td_explain.specs.declared.spot.Point.TheVariants.{Line, Stanza, Byte}
use Rattle.td_explain.specs.Spot.{SpotWords, spot_of}

-- The spot is in the line with this number: one line fewer comes before it.
pub record IsLine (n : ℕ) (text : List ℕ) (s : SpotWords) : Type 0 where
  pub before : List (List ℕ)
  pub after : List (List ℕ)
  pub parts : lines_of text ≡ before ++ s.line ∷ after
  pub counted : n ≡ length before + 1
  pub number : s.number ≡ n
  pub front : s.offset ≡ 0

-- The spot is after this many bytes of the text: those of the lines before its own, each with its
-- newline, and then those before it in its line, or all of them.
pub record IsByte (at : ℕ) (text : List ℕ) (s : SpotWords) : Type 0 where
  pub before : List (List ℕ)
  pub after : List (List ℕ)
  pub parts : lines_of text ≡ before ++ s.line ∷ after
  pub counted : at ≡ length (text_of before) + s.offset
  pub within : s.offset ≤ length s.line
  pub number : s.number ≡ length before + 1

-- The spot is the first line of this stanza, with these stanzas before it and those after it.
pub record IsStanzaFront (earlier : List (List Entry)) (stanza : List Entry)
    (later : List (List Entry)) (text : List ℕ) (s : SpotWords) : Type 0 where
  pub before : List (List ℕ)
  pub own : List (List ℕ)
  pub after : List (List ℕ)
  pub parts : lines_of text ≡ before ++ ((s.line ∷ own) ++ after)
  pub whole : AreStanzas earlier before
  pub stands : IsStanza stanza (s.line ∷ own)
  pub rest : AreStanzas later after
  pub number : s.number ≡ length before + 1
  pub front : s.offset ≡ 0

-- a line is found by a number if and only if that is its number; numbers begin at 1
abbrev pub LinesAreExact : Type 0
LinesAreExact = (n : ℕ) (text : List ℕ) (s : SpotWords) → 0 < n
    → (spot_of (Line n) text ≡ Some s) ↔ IsLine n text s

-- a byte is found at a spot if and only if that is its line and its column
abbrev pub BytesAreExact : Type 0
BytesAreExact = (at : ℕ) (text : List ℕ) (s : SpotWords)
    → (spot_of (Byte at) text ≡ Some s) ↔ IsByte at text s

-- if a text is stanzas, each is found by its number, from 1 on, at its first line
abbrev pub StanzasAreFound : Type 0
StanzasAreFound = (earlier : List (List Entry)) (stanza : List Entry) (later : List (List Entry))
    (text : List ℕ) → AreStanzas (earlier ++ stanza ∷ later) (lines_of text)
    → (s : SpotWords) × (spot_of (Stanza (length earlier + 1)) text ≡ Some s)
    × IsStanzaFront earlier stanza later text s

-- if a text is stanzas, none is found by a number after the last one's
abbrev pub NoMoreAreFound : Type 0
NoMoreAreFound = (n : ℕ) (stanzas : List (List Entry)) (text : List ℕ)
    → AreStanzas stanzas (lines_of text) → length stanzas < n → spot_of (Stanza n) text ≡ None
