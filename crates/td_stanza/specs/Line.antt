-- The lines of a control file (Debian Policy 5.1): separators, continuations, and first lines of
-- fields.
use Rattle.std.specs.Prelude.{◌≡◌, ℕ, ◌==◌, ◌&&◌, ◌||◌, not, Bool, false, List, [], ◌∷◌}
use Rattle.std.specs.List.{list_all}

-- a space or a tab
abbrev pub is_blank_byte : ℕ → Bool
is_blank_byte b = (b == 32) || (b == 9)

-- a separator of stanzas: an empty line, or only spaces and tabs (Debian Policy 5.1)
abbrev pub is_separator : List ℕ → Bool
is_separator line = list_all is_blank_byte line

-- whether a line begins with a space or a tab
abbrev pub begins_blank : List ℕ → Bool
begins_blank [] = false
begins_blank (b ∷ line) = is_blank_byte b

-- a line that continues the field above it (Debian Policy 5.1)
abbrev pub is_continuation : List ℕ → Bool
is_continuation line = begins_blank line && not (is_separator line)

-- any other line is the first of a field
abbrev pub IsFirstLine : List ℕ → Type 0
IsFirstLine line = (is_separator line ≡ false) × (begins_blank line ≡ false)

-- the first of some lines, or an empty one
abbrev pub first_line : List (List ℕ) → List ℕ
first_line [] = []
first_line (line ∷ lines) = line
