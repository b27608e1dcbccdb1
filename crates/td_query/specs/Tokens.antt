-- The tokens of a tracker, and what may stand between them.
-- All of it is this project's own, in the style of ben.
use Rattle.std.specs.Prelude.{ℕ, ◌+◌, ◌==◌, nat_le, ◌&&◌, ◌||◌, not, Bool, true, false, List, []}
use Rattle.std.specs.Prelude.{◌∷◌, Option, Some, None, option_map, take, drop, if◌then◌else◌}
use Rattle.td_text.specs.Cut.{cut}
use Rattle.td_text.specs.Runs.{is_space}

-- what follows the first newline
abbrev pub line_behind : List ℕ → Option (List ℕ)
line_behind text = option_map (λ p. p.1) (cut 10 text)

-- a text without the spaces, tabs, newlines and comments at its front;
-- a comment goes from `#` to the end of its line
unfoldable pub skipped_in : Bool → List ℕ → List ℕ
skipped_in comment [] = []
skipped_in true (x ∷ t) = skipped_in (not (x == 10)) t
skipped_in false (x ∷ t) = if is_space x then skipped_in false t
    else (if x == 35 then skipped_in true t else x ∷ t)

-- a text without whitespace and comments at its front, with no comment open before it
abbrev pub skipped : List ℕ → List ℕ
skipped text = skipped_in false text

-- what keys, the names of fields, and `true` and `false` are made of
abbrev pub is_key_byte : ℕ → Bool
is_key_byte b = (nat_le 97 b && nat_le b 122)
    || ((nat_le 65 b && nat_le b 90) || ((nat_le 48 b && nat_le b 57) || ((b == 95) || (b == 45))))

-- how many bytes at the front two texts have in common
unfoldable pub common_len : List ℕ → List ℕ → ℕ
common_len [] b = 0
common_len (x ∷ a) [] = 0
common_len (x ∷ a) (y ∷ b) = if x == y then 1 + common_len a b else 0

-- where the slash is that closes a pattern: the first one without a backslash before it.
-- The test says whether a backslash is before the text
unfoldable pub pattern_end : Bool → List ℕ → Option ℕ
pattern_end escaped [] = None
pattern_end escaped (x ∷ t) = if (x == 47) && not escaped then Some 0
    else option_map (λ n. n + 1) (pattern_end (x == 92) t)

-- what is before the slash that closes a pattern, and what follows it
abbrev pub pattern_in : List ℕ → Option (List ℕ × List ℕ)
pattern_in text = option_map (λ n. (take n text, drop 1 (drop n text))) (pattern_end false text)
