-- The list of the rows that are on offer, kept up as they change. This project's own.
use Rattle.std.specs.Prelude.{◌≡◌, ℕ, zero, suc, ◌<◌, ◌≤◌, ◌==◌, Bool, true, false, List, [], ◌∷◌}
use Rattle.std.specs.Prelude.{filter, length, slice_index, if◌then◌else◌}
use Rattle.std.specs.List.{count_by, list_any, range_with_len}
use Rattle.td_board.specs.declared.views.RowView.{RowView}
use Rattle.td_board.specs.declared.views.RowView.TheVariants.{In, Out, Seen, Known}

-- whether a row is on offer, as far as the desk knows
abbrev pub is_out_view : RowView → Bool
is_out_view In = false
is_out_view Out = true
is_out_view (Seen b) = false
is_out_view (Known b) = false

-- whether the row with a number is
abbrev pub is_out_no : List RowView → ℕ → Bool
is_out_no [] n = false
is_out_no (x ∷ xs) zero = is_out_view x
is_out_no (x ∷ xs) (suc n) = is_out_no xs n

-- whether any row is
abbrev pub is_any_out : List RowView → Bool
is_any_out view = list_any is_out_view view

-- the numbers of the rows on offer, from the first
abbrev pub outs_of : List RowView → List ℕ
outs_of view = filter (is_out_no view) (range_with_len 0 (length view))

-- how often a number stands in a list
abbrev pub times_in : List ℕ → ℕ → ℕ
times_in numbers n = count_by (λ m. m == n) numbers

-- the list has each row on offer once and no other, the places have, by row, where it stands there,
-- and there is room in the list for every row
pub record IsListed (view : List RowView) (outs places : List ℕ) (room : ℕ) : Type 0 where
  pub once : (n : ℕ) → times_in outs n ≡ (if is_out_no view n then 1 else 0)
  pub placed : (i : ℕ) → i < length outs → slice_index places (slice_index outs i) ≡ i
  pub long : length places ≡ length view
  pub roomy : length view ≤ room
