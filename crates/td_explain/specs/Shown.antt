-- A text as it is shown within a line. This project's own.
use Rattle.std.specs.Prelude.{ℕ, zero, suc, ◌/◌, ◌%◌, List, [], ◌∷◌, ◌++◌, encode_utf8}
use Rattle.std.specs.Prelude.{if◌then◌else◌}
use Rattle.std.specs.Char.{digit_char, is_control}

-- how many characters of a text are shown
abbrev pub max_shown : ℕ
max_shown = 60

-- how many characters of a path are shown: Linux takes no path of more bytes
abbrev pub max_path : ℕ
max_path = 4096

-- `\x`, and the number of a control character in two hexadecimal digits
abbrev pub escaped : ℕ → List ℕ
escaped c = 92 ∷ 120 ∷ (encode_utf8 (digit_char (c / 16)) ++ encode_utf8 (digit_char (c % 16)))

-- a control character (U+0000 to U+001F, U+007F to U+009F) is escaped, and any other is shown as
-- itself
abbrev pub shown_char : ℕ → List ℕ
shown_char c = if is_control c then escaped c else encode_utf8 c

-- this many characters at most, and a quotation mark after them; three dots if more follow
unfoldable pub shown_from : ℕ → List ℕ → List ℕ
shown_from left [] = 34 ∷ []
shown_from zero (c ∷ cs) = 34 ∷ 46 ∷ 46 ∷ 46 ∷ []
shown_from (suc left) (c ∷ cs) = shown_char c ++ shown_from left cs

-- the characters between quotation marks, this many at most
abbrev pub shown : ℕ → List ℕ → List ℕ
shown most cs = 34 ∷ shown_from most cs
