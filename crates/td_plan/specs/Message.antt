-- Which messages and suites a line can have, and how a message is quoted. This project's own: a
-- plan's lines are also read by shells.
use Rattle.std.specs.Prelude.{ℕ, ◌==◌, nat_le, nat_lt, ◌&&◌, ◌||◌, not, Bool, List, [], ◌∷◌, ◌++◌}
use Rattle.std.specs.Prelude.{length, slice_index, if◌then◌else◌}
use Rattle.std.specs.List.{list_all, list_any}
use Rattle.td_rows.specs.Text.{has_newline}

-- a byte that a shell reads between `"`: `"`, `$`, a backquote, a backslash
abbrev pub is_read_by_shells : ℕ → Bool
is_read_by_shells c = (c == 34) || ((c == 36) || ((c == 96) || (c == 92)))

-- a message with a byte that a shell reads between `"` is put between `'`
abbrev pub is_single_quoted : List ℕ → Bool
is_single_quoted message = list_any is_read_by_shells message

-- a message that one of the two quotes can hold: on one line, and without `'` if it has a byte that
-- a shell reads between `"`
abbrev pub can_be_quoted : List ℕ → Bool
can_be_quoted message = not (has_newline message)
    && not (is_single_quoted message && list_any (λ c. c == 39) message)

-- the quote of a message
abbrev pub quote_of : List ℕ → ℕ
quote_of message = if is_single_quoted message then 39 else 34

-- a text between two quotes of one kind
abbrev pub between : ℕ → List ℕ → List ℕ
between quote text = quote ∷ (text ++ quote ∷ [])

-- a message between its quotes
abbrev pub quoted : List ℕ → List ℕ
quoted message = between (quote_of message) message

-- a letter from `a` to `z`
abbrev pub is_small_letter : ℕ → Bool
is_small_letter c = nat_le 97 c && nat_le c 122

-- a small letter, a digit or a hyphen
abbrev pub is_suite_byte : ℕ → Bool
is_suite_byte c = is_small_letter c || ((nat_le 48 c && nat_le c 57) || (c == 45))

-- the name of a suite: small letters, digits and hyphens, the first a letter
abbrev pub is_suite : List ℕ → Bool
is_suite text = nat_lt 0 (length text)
    && (is_small_letter (slice_index text 0) && list_all is_suite_byte text)
