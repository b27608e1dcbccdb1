-- A field's value: what runs from the colon to the end of the field's last line.
use Rattle.std.specs.Prelude.{ℕ, List, [], ◌∷◌, ◌++◌, reverse, if◌then◌else◌}
use Rattle.std.specs.List.{flat_map}
use Rattle.td_stanza.specs.Line.{is_blank_byte}

-- the text without the spaces and tabs at its front
abbrev pub trimmed_front : List ℕ → List ℕ
trimmed_front [] = []
trimmed_front (b ∷ text) = if is_blank_byte b then trimmed_front text else b ∷ text

-- the text without the spaces and tabs at its end: the same of the text turned round
abbrev pub trimmed_back : List ℕ → List ℕ
trimmed_back text = reverse (trimmed_front (reverse text))

-- the text without the spaces and tabs at both ends
abbrev pub trimmed : List ℕ → List ℕ
trimmed text = trimmed_back (trimmed_front text)

-- lines, each after a newline
abbrev pub after_newlines : List (List ℕ) → List ℕ
after_newlines lines = flat_map (λ line. 10 ∷ line) lines

-- the value by what follows the colon on the first line, and the lines that continue it: inner
-- newlines stay, and what else a line has, a carriage return too (Debian Policy 5.1; that the ends
-- are trimmed as a whole is this project's own)
abbrev pub value_of : List ℕ → List (List ℕ) → List ℕ
value_of first more = trimmed (first ++ after_newlines more)
