-- Where a text stands in a value, bounded. This project's own.
use Rattle.std.specs.Prelude.{◌≡◌, ◌⊎◌, ◌↔◌, ℕ, zero, suc, ◌+◌, ◌-◌, ◌≤◌, ◌<◌, ◌==◌, nat_le, nat_lt}
use Rattle.std.specs.Prelude.{◌&&◌, ◌||◌, not, Bool, false, IsTrue, List, length, slice_index}
use Rattle.std.specs.Prelude.{slice_range}
use Rattle.std.specs.Str.{bytes_eq}
use Rattle.td_text.specs.Words.{is_name_byte}

-- before a place, a text is bounded by the start or by what no package's name has
abbrev pub is_free_before : List ℕ → ℕ → Bool
is_free_before value i = (i == 0) || not (is_name_byte (slice_index value (i - 1)))

-- from a place on, it is bounded by the end or by what no package's name has
abbrev pub is_free_from : List ℕ → ℕ → Bool
is_free_from value j = nat_le (length value) j || not (is_name_byte (slice_index value j))

-- the text is in the value at i, bounded on both sides
abbrev pub stands_at : List ℕ → List ℕ → ℕ → Bool
stands_at text value i =
    nat_le (i + length text) (length value)
    && (bytes_eq (slice_range value i (i + length text)) text
    && (is_free_before value i && is_free_from value (i + length text)))

-- a test holds of some number below n
unfoldable pub any_below : (ℕ → Bool) → ℕ → Bool
any_below test zero = false
any_below test (suc n) = any_below test n || test n

-- the text, not empty, is somewhere in the value, bounded on both sides
unfoldable pub stands_in : List ℕ → List ℕ → Bool
stands_in text value = nat_lt 0 (length text) && any_below (stands_at text value) (length value)

-- a place where the text is:
-- within the value, the same bytes, and on either side an end or what no package's name has
pub record StandsAt (text value : List ℕ) (i : ℕ) : Type 0 where
  pub within : i + length text ≤ length value
  pub same : slice_range value i (i + length text) ≡ text
  pub before : (i ≡ 0) ⊎ (is_name_byte (slice_index value (i - 1)) ≡ false)
  pub after : (length value ≤ i + length text)
      ⊎ (is_name_byte (slice_index value (i + length text)) ≡ false)

-- a bounded text is found if and only if there is such a place
abbrev pub TextsAreFoundWhereTheyStand : Type 0
TextsAreFoundWhereTheyStand = (text value : List ℕ)
    → IsTrue (stands_in text value) ↔ ((0 < length text) × (i : ℕ) × StandsAt text value i)
