-- The texts at a line's end: ` ;LENGTH EXTRA` and ` : TEXT`, each left out where it is empty.
-- This project's own.
use Rattle.std.specs.Prelude.{ℕ, ◌==◌, ◌<◌, ◌-◌, ◌^◌, nat_lt, nat_le, List, [], ◌∷◌, ◌++◌, Bool}
use Rattle.std.specs.Prelude.{◌&&◌, ◌||◌, Option, Some, None, length, slice_index, take, drop}
use Rattle.std.specs.Prelude.{if◌then◌else◌, codes, decimal}
use Rattle.td_text.specs.Chain.{◌>>=◌}
use Rattle.td_text.specs.Cut.{cut, strip}
use Rattle.td_text.specs.Numbers.{number_at}

-- the extra dependencies with their length in bytes, since they may have any byte but a newline
abbrev pub extra_part : List ℕ → List ℕ
extra_part [] = []
extra_part (x ∷ xs) = codes " ;" ++ (decimal (length (x ∷ xs)) ++ 32 ∷ (x ∷ xs))

-- the text that ends the line
abbrev pub text_part : List ℕ → List ℕ
text_part [] = []
text_part (x ∷ xs) = codes " : " ++ (x ∷ xs)

-- both
abbrev pub notes : List ℕ × List ℕ → List ℕ
notes n = extra_part n.0 ++ text_part n.1

-- notes that can be written
abbrev pub NotesFit : List ℕ × List ℕ → Type 0
NotesFit n = length n.0 < 2 ^ 64

-- whether a character begins or the text ends at a place
abbrev pub is_boundary : List ℕ → ℕ → Bool
is_boundary text i = nat_le i (length text) &&
    (nat_le (length text) i || (nat_lt (slice_index text i) 128 || nat_le 192 (slice_index text i)))

-- a text that is led by its length, and what follows it
unfoldable pub counted_at : List ℕ → Option (List ℕ × List ℕ)
counted_at text = do
  count ← cut 32 text
  n ← number_at (2 ^ 64 - 1) count.0
  if nat_lt 0 n && is_boundary count.1 n then Some (take n count.1, drop n count.1) else None

-- the extra dependencies by what follows their mark, if it is there
abbrev pub extra_after : List ℕ → Option (List ℕ) → Option (List ℕ × List ℕ)
extra_after text None = Some ([], text)
extra_after text (Some rest) = counted_at rest

-- the extra dependencies, and what follows them
unfoldable pub extra_at : List ℕ → Option (List ℕ × List ℕ)
extra_at text = extra_after text (strip (codes " ;") text)

-- the text that ends a line
unfoldable pub text_at : List ℕ → Option (List ℕ)
text_at text = if length text == 0 then Some []
    else (strip (codes " : ") text >>= λ t. if length t == 0 then None else Some t)

-- both
unfoldable pub notes_at : List ℕ → Option (List ℕ × List ℕ)
notes_at text = do
  extra ← extra_at text
  t ← text_at extra.1
  Some (extra.0, t)
