-- The word at the front of a text, as it is taken off. This project's own.
use Rattle.std.specs.Prelude.{◌≡◌, ℕ, ◌+◌, Bool, true, false, List, [], ◌∷◌, ◌++◌, Option, None}
use Rattle.std.specs.Prelude.{length, if◌then◌else◌}
use Rattle.std.specs.List.{list_any}
use Rattle.td_rows.specs.Text.{has_newline}
use Rattle.td_text.specs.Runs.{is_space}
use Rattle.td_wbread.specs.declared.scanning.Front.{Front}
use Rattle.td_wbread.specs.declared.scanning.Front.TheVariants.{Whole, Open}
use Rattle.td_wbread.specs.Words.{Mark, unclosed, is_quote, is_gap, is_unclosed, marks, text_of}
use Rattle.td_wbread.specs.Words.{is_bare_piece, on_one_line}

-- no quote stands at the front of a text
abbrev pub IsUnquoted : List ℕ → Type 0
IsUnquoted [] = Unit {0}
IsUnquoted (b ∷ text) = is_quote b ≡ false

-- what stands between quotes, and what follows, where a quote closes
abbrev pub closing : Option (List ℕ × List ℕ) → Option (List ℕ × List ℕ)
closing cut = if on_one_line cut then cut else None

-- nothing, or whitespace
abbrev pub EndsWord : List ℕ → Type 0
EndsWord [] = Unit {0}
EndsWord (b ∷ text) = is_space b ≡ true

-- these marks stand at the front of the text's, and are part of one word
pub record IsTaken (text : List ℕ) (front : List Mark) (after : List ℕ) : Type 0 where
  pub marked : marks None text ≡ front ++ marks None after
  pub one : list_any is_gap front ≡ false
  pub closed : list_any is_unclosed front ≡ false
  pub one_line : has_newline (text_of front) ≡ false
  pub long : length text ≡ length front + length after

-- these marks stand at the front of the text's, are part of one word, and give it this text
pub record IsSeen (text word : List ℕ) (is_bare : Bool) (after : List ℕ) : Type 0 where
  pub front : List Mark
  pub taken : IsTaken text front after
  pub joined : text_of front ≡ word
  pub bare : is_bare_piece front ≡ is_bare

-- a quote at this place of the text, in its first word, isn't closed
pub record IsOpen (text : List ℕ) (place : ℕ) : Type 0 where
  pub front : List Mark
  pub after : List ℕ
  pub taken : IsTaken text front after
  pub unclosed_after : marks None after ≡ unclosed ∷ []
  pub counted : length front ≡ place

-- the first word of a text, or the place of its quote that isn't closed
abbrev pub IsFront : List ℕ → Front → Type 0
IsFront text (Whole word is_bare after) =
    IsSeen text word is_bare after.now × EndsWord after.now
IsFront text (Open place) =
    IsOpen text place
