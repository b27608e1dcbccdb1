-- A text that is read in pieces, which are cut at an empty line. This project's own.
use Rattle.std.specs.Prelude.{◌≡◌, ℕ, List, [], ◌∷◌, ◌++◌}
use Rattle.td_text.specs.Lines.{lines_of}
use Rattle.td_stanza.specs.Field.{Entry}
use Rattle.td_stanza.specs.StanzaGrammar.{BeginsApart}

-- the stanzas of all pieces
abbrev pub all_of : List (List (List Entry)) → List (List Entry)
all_of [] = []
all_of (piece ∷ pieces) = piece ++ all_of pieces

-- a text is what comes before a newline and after it, and a separator follows the newline
pub record IsCutApart (text before behind : List ℕ) : Type 0 where
  pub parts : text ≡ before ++ 10 ∷ behind
  pub apart : BeginsApart (lines_of behind)
