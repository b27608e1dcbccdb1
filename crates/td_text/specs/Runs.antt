-- Whitespace, and the longest run of bytes of a kind at the front of a text. This project's own.
use Rattle.std.specs.Prelude.{ℕ, ◌==◌, ◌||◌, Bool, List, take, drop}
use Rattle.std.specs.List.{list_all, prefix_len}

-- whitespace: spaces, tabs and newlines
abbrev pub is_space : ℕ → Bool
is_space b = (b == 32) || ((b == 9) || (b == 10))

-- the longest front of bytes that pass the test
abbrev pub run : (ℕ → Bool) → List ℕ → List ℕ
run test text = take (prefix_len test text) text

-- what follows the longest front of bytes that pass the test
abbrev pub behind : (ℕ → Bool) → List ℕ → List ℕ
behind test text = drop (prefix_len test text) text

-- the text without the whitespace at its beginning
abbrev pub trimmed : List ℕ → List ℕ
trimmed text = behind is_space text

-- only whitespace, or nothing
abbrev pub is_blank : List ℕ → Bool
is_blank text = list_all is_space text
