-- Numbers as the formats write them: no `+`, no leading zero, no `-0`. This project's own.
use Rattle.std.specs.Prelude.{ℕ, ◌==◌, ◌<◌, ◌≤◌, ◌^◌, decimal, nat_lt, nat_le, List, Bool, ◌&&◌}
use Rattle.std.specs.Prelude.{◌||◌, not, Option, Some, None, length, slice_index, if◌then◌else◌}
use Rattle.std.specs.Prelude.{codes, ℤ, pos, ◌≤ℤ◌}
use Rattle.std.specs.Str.{all_ascii_digits}
use Rattle.std.specs.Str.Parse.{digits_value}
use lib.IntN.{neg_ℤ}
use Rattle.td_text.specs.Chain.{◌>>=◌}
use Rattle.std.specs.Fmt.{signed_decimal}
use Rattle.td_text.specs.Cut.{strip}
use Rattle.td_text.specs.Exact.{Exact}

-- whether a text begins with a plus, or with a zero before more
abbrev pub has_spare_front : List ℕ → Bool
has_spare_front text =
    (slice_index text 0 == 43) || ((slice_index text 0 == 48) && nat_lt 1 (length text))

-- one decimal digit or more, without a needless zero at the beginning
abbrev pub is_numeral : List ℕ → Bool
is_numeral text = nat_lt 0 (length text) && (not (has_spare_front text) && all_ascii_digits text)

-- the number, at most max, that a numeral is
unfoldable pub number_at : ℕ → List ℕ → Option ℕ
number_at max text =
    if is_numeral text
    && nat_le (digits_value 10 text) max then Some (digits_value 10 text) else None

-- the number from -max to max
abbrev pub IsWithin : ℕ → ℤ → Type 0
IsWithin max z = (neg_ℤ (pos max) ≤ℤ z) × (z ≤ℤ pos max)

-- the number by what follows its minus, if it has one; what follows a minus isn't 0
abbrev pub signed_after : ℕ → List ℕ → Option (List ℕ) → Option ℤ
signed_after max text None = number_at max text >>= λ n. Some (pos n)
signed_after max text (Some digits) =
    number_at max digits >>= λ n. if n == 0 then None else Some (neg_ℤ (pos n))

-- the number from -max to max that a text is
unfoldable pub signed_at : ℕ → List ℕ → Option ℤ
signed_at max text = signed_after max text (strip (codes "-") text)

-- a text is read as a number if and only if it is the number in decimal
abbrev pub NumbersAreExact : Type 0
NumbersAreExact = (max : ℕ) → max < 2 ^ 64 → Exact (number_at max) decimal (λ n. n ≤ max)

-- a text is read as a signed number if and only if it is the number in decimal
abbrev pub SignedAreExact : Type 0
SignedAreExact = (max : ℕ) → max < 2 ^ 15 → Exact (signed_at max) signed_decimal (IsWithin max)
