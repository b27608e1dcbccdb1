-- A law of the words of a line: what is quoted is read as it was. This project's own.
use Rattle.std.specs.Prelude.{◌≡◌, ℕ, false, List, [], ◌∷◌, ◌++◌, length, map}
use Rattle.std.specs.List.{AllByRecursion, flat_map}
use Rattle.td_text.specs.Cut.{Without}
use Rattle.td_rows.specs.Text.{has_newline}
use Rattle.td_wbread.specs.declared.word.End.TheVariants.{Closed}
use Rattle.td_wbread.specs.Words.{end_of, words_of}

-- a text between quotes, and a space after it
abbrev pub quoted_text : List ℕ → List ℕ
quoted_text text = 39 ∷ (text ++ 39 ∷ (32 ∷ []))

-- texts as a line
abbrev pub quoted_line : List (List ℕ) → List ℕ
quoted_line texts = flat_map quoted_text texts

-- no quote of this kind and no newline stands in the text
pub record CanBeQuoted (text : List ℕ) : Type 0 where
  pub unquoted : Without 39 text
  pub one_line : has_newline text ≡ false

-- the words of texts that stand between quotes, one after the other, are these texts, and nothing
-- is left after them
abbrev pub QuotedWordsAreRead : Type 0
QuotedWordsAreRead = (texts : List (List ℕ)) → AllByRecursion CanBeQuoted texts →
    (map (λ w. w.text) (words_of (quoted_line texts)) ≡ texts)
    × (end_of (quoted_line texts) ≡ Closed (length (quoted_line texts)))
